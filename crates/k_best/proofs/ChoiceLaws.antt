-- One more is chosen.
use Rattle.std.proofs.Common.{◌≡◌, ℕ, ◌+◌, ◌-◌, ◌≤◌, ◌<◌, List, [], ◌∷◌, ◌++◌, length, Option, Some, None, refl, ap, sym, ◌∙◌, subst, arith, inl, inr}
use Rattle.std.specs.Prelude.{◌⊎◌, slice_get}
use Rattle.best_plan.specs.declared.solution.Solution.{Solution}
use Rattle.best_plan.specs.Moves.{Graph}
use Rattle.k_best.specs.declared.lists.Lists.{Lists}
use Rattle.k_best.specs.Showings.{shown, shown_by}
use Rattle.k_best.specs.Picks.{IsPick, ArePicks, AreIn, ShowsIn, IsCheapestNew, IsChoice, HasCheapest, AreTaken, AreCheapest}
use Rattle.k_best.proofs.ListLaws.{some_same, get_cases, get_left, get_right, get_more, get_within, le_or_lt, at_or_before}

pub picks_more : (m : Graph) (l : Lists) (g : ℕ) (ps : List Solution) (s : Solution) → ArePicks m l g ps → IsPick m l g s → ArePicks m l g (ps ++ s ∷ [])
picks_more m l g ps s picks pick i t e = by_cases (get_cases ps s i t e) where
  by_cases : (slice_get ps i ≡ Some t) ⊎ ((i ≡ length ps) × (s ≡ t)) → IsPick m l g t
  by_cases (inl h) = picks i t h
  by_cases (inr h) = subst (IsPick m l g) h.1 pick

pub in_more : (ps pool more : List Solution) → AreIn ps pool → AreIn ps (pool ++ more)
in_more ps pool more within i s e = let h = within i s e in (h.0, get_more pool more h.0 s h.1)

pub picks_append : (m : Graph) (l : Lists) (g : ℕ) (ps qs : List Solution) → ArePicks m l g ps → ArePicks m l g qs → ArePicks m l g (ps ++ qs)
picks_append m l g ps qs first others i s e = by_order (le_or_lt (length ps) i) where
  by_order : (length ps ≤ i) ⊎ (i < length ps) → IsPick m l g s
  by_order (inl h) = others (i - length ps) s (sym (get_right ps qs (i - length ps) i (omega (arith, h))) ∙ e)
  by_order (inr h) = first i s (sym (get_left ps qs i h) ∙ e)

pub picks_in : (m : Graph) (l : Lists) (g : ℕ) (ps pool : List Solution) → AreIn ps pool → ArePicks m l g pool → ArePicks m l g ps
picks_in m l g ps pool within picks i s e = let h = within i s e in picks h.0 s h.1

in_last : (pool ps : List Solution) → AreIn ps (pool ++ ps)
in_last pool ps i s e = (length pool + i, get_right pool ps i (length pool + i) refl ∙ e)

module _ (m : Graph) (face : ℕ → ℕ → ℕ) (most : ℕ) (l : Lists) (g : ℕ) (pool ps : List Solution) where
  -- the pool has the cheapest of one more alternative
  pub pool_more : (k : ℕ) → ((j : ℕ) → j < k → HasCheapest m face most l g pool j) → AreTaken m l g k ps → AreCheapest m face most l g k ps
      → (j : ℕ) → j < k + 1 → HasCheapest m face most l g (pool ++ ps) j
  pool_more k has taken cheapest j h = by_order (le_or_lt k j) where
    by_order : (k ≤ j) ⊎ (j < k) → HasCheapest m face most l g (pool ++ ps) j
    by_order (inl o) = (let same : k ≡ j = omega (arith, h, o) in subst (HasCheapest m face most l g (pool ++ ps)) same (ps, taken, cheapest, in_last pool ps))
    by_order (inr o) = (let old = has j o in (old.0, old.1, old.2, in_more old.0 pool ps old.3))

module _ (face : ℕ → ℕ → ℕ) (l : Lists) (pool chosen : List Solution) where
  -- the next shows nothing new
  pub new_kept : (n : ℕ) (s : Solution) (best : Option ℕ) → slice_get pool n ≡ Some s → ShowsIn face l chosen s → IsCheapestNew face l pool chosen n best → IsCheapestNew face l pool chosen (n + 1) best
  new_kept n s None e is old = λ i t h f. elim (at_or_before pool n i s t h e f) [ inl x ↦ old i t x f | inr x ↦ subst (ShowsIn face l chosen) x is ]
  new_kept n s (Some at) e is old =
      (old.0, old.1, old.2, λ i t h f. elim (at_or_before pool n i s t h e f) [ inl x ↦ old.3 i t x f | inr x ↦ inl (subst (ShowsIn face l chosen) x is) ])

  pub new_first : (n : ℕ) (s : Solution) → slice_get pool n ≡ Some s → (ShowsIn face l chosen s → ⊥) → IsCheapestNew face l pool chosen n None → IsCheapestNew face l pool chosen (n + 1) (Some n)
  new_first n s e new old = (s, e, new, λ i t h f. elim (at_or_before pool n i s t h e f) [ inl x ↦ inl (old i t x f) | inr x ↦ inr (subst (λ (u : Solution). s.cost ≤ u.cost) x (omega arith)) ])

  pub new_stays : (n at : ℕ) (s b : Solution) → slice_get pool n ≡ Some s → slice_get pool at ≡ Some b → b.cost ≤ s.cost → IsCheapestNew face l pool chosen n (Some at) → IsCheapestNew face l pool chosen (n + 1) (Some at)
  new_stays n at s b e eb low old =
      let same : old.0 ≡ b = some_same old.0 b (sym old.1 ∙ eb) in
      (old.0, old.1, old.2, λ i t h f. elim (at_or_before pool n i s t h e f) [ inl x ↦ old.3 i t x f | inr x ↦ inr (subst (λ (u : Solution). old.0.cost ≤ u.cost) x (subst (λ (u : Solution). u.cost ≤ s.cost) (sym same) low)) ])

  pub new_better : (n at : ℕ) (s b : Solution) → slice_get pool n ≡ Some s → (ShowsIn face l chosen s → ⊥) → slice_get pool at ≡ Some b → s.cost ≤ b.cost → IsCheapestNew face l pool chosen n (Some at) → IsCheapestNew face l pool chosen (n + 1) (Some n)
  new_better n at s b e new eb low old = (s, e, new, λ i t h f. by_place i t f (at_or_before pool n i s t h e f)) where
    same : old.0 ≡ b
    same = some_same old.0 b (sym old.1 ∙ eb)

    lower : s.cost ≤ old.0.cost
    lower = subst (λ (u : Solution). s.cost ≤ u.cost) (sym same) low

    by_old : (t : Solution) → ShowsIn face l chosen t ⊎ (old.0.cost ≤ t.cost) → ShowsIn face l chosen t ⊎ (s.cost ≤ t.cost)
    by_old t (inl x) = inl x
    by_old t (inr x) = inr (omega (arith, x, lower))

    by_place : (i : ℕ) (t : Solution) → slice_get pool i ≡ Some t → (i < n) ⊎ (s ≡ t) → ShowsIn face l chosen t ⊎ (s.cost ≤ t.cost)
    by_place i t f (inl x) = by_old t (old.3 i t x f)
    by_place i t f (inr x) = inr (subst (λ (u : Solution). s.cost ≤ u.cost) x (omega arith))

  shows_more : (s t : Solution) → ShowsIn face l chosen t → ShowsIn face l (chosen ++ s ∷ []) t
  shows_more s t (i, u, e, same) = (i, u, get_more chosen (s ∷ []) i u e, same)

  choice_more : IsChoice face l pool chosen → (at : ℕ) (s : Solution) → slice_get pool at ≡ Some s → (ShowsIn face l chosen s → ⊥)
      → ((i : ℕ) (t : Solution) → i < length pool → slice_get pool i ≡ Some t → ShowsIn face l chosen t ⊎ (s.cost ≤ t.cost)) → IsChoice face l pool (chosen ++ s ∷ [])
  choice_more choice at s is new least = record {
    from = λ i t e. from i t (get_cases chosen s i t e);
    rising = λ i j t u le e f. rising i j t u le (get_cases chosen s i t e) (get_cases chosen s j u f);
    distinct = λ i j t u e f same. distinct i j t u (get_cases chosen s i t e) (get_cases chosen s j u f) same;
    covers = λ i t e. covers i t e (choice.covers i t e) (least i t (get_within pool i t e) e);
  }
    where
      from : (i : ℕ) (t : Solution) → (slice_get chosen i ≡ Some t) ⊎ ((i ≡ length chosen) × (s ≡ t)) → (j : ℕ) × (slice_get pool j ≡ Some t)
      from i t (inl e) = choice.from i t e
      from i t (inr e) = (at, is ∙ ap Some e.1)

      low_by : ShowsIn face l chosen s ⊎ ((j : ℕ) (t : Solution) → slice_get chosen j ≡ Some t → t.cost ≤ s.cost) → (j : ℕ) (t : Solution) → slice_get chosen j ≡ Some t → t.cost ≤ s.cost
      low_by (inl there) = absurd (new there)
      low_by (inr low) = low

      low : (j : ℕ) (t : Solution) → slice_get chosen j ≡ Some t → t.cost ≤ s.cost
      low = low_by (choice.covers at s is)

      rising : (i j : ℕ) (t u : Solution) → i ≤ j → (slice_get chosen i ≡ Some t) ⊎ ((i ≡ length chosen) × (s ≡ t)) → (slice_get chosen j ≡ Some u) ⊎ ((j ≡ length chosen) × (s ≡ u)) → t.cost ≤ u.cost
      rising i j t u le (inl e) (inl f) = choice.rising i j t u le e f
      rising i j t u le (inl e) (inr f) = subst (λ (x : Solution). t.cost ≤ x.cost) f.1 (low i t e)
      rising i j t u le (inr e) (inl f) = absurd (omega (arith, le, e.0, get_within chosen j u f))
      rising i j t u le (inr e) (inr f) = subst (λ (x : Solution). t.cost ≤ x.cost) (sym e.1 ∙ f.1) (omega arith)

      distinct : (i j : ℕ) (t u : Solution) → (slice_get chosen i ≡ Some t) ⊎ ((i ≡ length chosen) × (s ≡ t)) → (slice_get chosen j ≡ Some u) ⊎ ((j ≡ length chosen) × (s ≡ u))
          → shown_by face (shown face l.solutions) t ≡ shown_by face (shown face l.solutions) u → i ≡ j
      distinct i j t u (inl e) (inl f) same = choice.distinct i j t u e f same
      distinct i j t u (inl e) (inr f) same = absurd (new (i, t, e, same ∙ ap (shown_by face (shown face l.solutions)) (sym f.1)))
      distinct i j t u (inr e) (inl f) same = absurd (new (j, u, f, sym same ∙ ap (shown_by face (shown face l.solutions)) (sym e.1)))
      distinct i j t u (inr e) (inr f) same = e.0 ∙ sym f.0

      each : (t : Solution) → ((j : ℕ) (u : Solution) → slice_get chosen j ≡ Some u → u.cost ≤ t.cost) → s.cost ≤ t.cost → (j : ℕ) (u : Solution) → (slice_get chosen j ≡ Some u) ⊎ ((j ≡ length chosen) × (s ≡ u)) → u.cost ≤ t.cost
      each t old le j u (inl e) = old j u e
      each t old le j u (inr e) = subst (λ (x : Solution). x.cost ≤ t.cost) e.1 le

      covers : (i : ℕ) (t : Solution) → slice_get pool i ≡ Some t → ShowsIn face l chosen t ⊎ ((j : ℕ) (u : Solution) → slice_get chosen j ≡ Some u → u.cost ≤ t.cost) → ShowsIn face l chosen t ⊎ (s.cost ≤ t.cost)
          → ShowsIn face l (chosen ++ s ∷ []) t ⊎ ((j : ℕ) (u : Solution) → slice_get (chosen ++ s ∷ []) j ≡ Some u → u.cost ≤ t.cost)
      covers i t e (inl there) o = inl (shows_more s t there)
      covers i t e (inr old) (inl there) = inl (shows_more s t there)
      covers i t e (inr old) (inr le) = inr (λ j u f. each t old le j u (get_cases chosen s j u f))

  pub choice_next : IsChoice face l pool chosen → (at : ℕ) (s : Solution) → slice_get pool at ≡ Some s → IsCheapestNew face l pool chosen (length pool) (Some at) → IsChoice face l pool (chosen ++ s ∷ [])
  choice_next choice at s is best =
      let same : best.0 ≡ s = some_same best.0 s (sym best.1 ∙ is) in
      subst (λ (u : Solution). IsChoice face l pool (chosen ++ u ∷ [])) same (choice_more choice at best.0 best.1 best.2 best.3)
