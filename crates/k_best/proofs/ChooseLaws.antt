-- The cheapest of a goal's picks are the cheapest of all that its solutions show.
use Rattle.std.proofs.Common.{◌≡◌, ◌≢◌, ℕ, zero, suc, ◌≤◌, ◌<◌, List, length, map, Some, refl, ap, sym, ◌∙◌, subst, arith, inl, inr}
use Rattle.std.specs.Prelude.{◌⊎◌, slice_get}
use Rattle.std.specs.Option.{option_map}
use Rattle.std.proofs.lemmas.Option.{slice_get-map}
use Rattle.best_plan.specs.declared.solution.Solution.{Solution}
use Rattle.best_plan.specs.Moves.{Graph, IsAlternative}
use Rattle.k_best.specs.declared.lists.Lists.{Lists}
use Rattle.k_best.specs.Showings.{Showing, shows, paid, row, shown_in, shown, shown_at, shown_by}
use Rattle.k_best.specs.BestLists.{IsShown, IsBest, IsAmong, IsFull, Covers}
use Rattle.k_best.specs.Lists.{AreRight, AreWithin}
use Rattle.k_best.specs.Picks.{AllDone, AreTaken, AreChosen, AreIn, HasCheapest, NoneDearer, ShowsIn, shown_of}
use Rattle.k_best.proofs.ListLaws.{get_within, get_there, le_or_lt, same_or_not, pigeon}
use Rattle.k_best.proofs.SolutionLaws.{parts_of}
use Rattle.k_best.proofs.ListedLaws.{pick_shows, inputs_same}

module _ (m : Graph) (face : ℕ → ℕ → ℕ) (most : ℕ) (l : Lists) (right : AreRight m face most l) (g : ℕ) (pool chosen : List Solution) (best : AreChosen face most l pool chosen) where
  pub chosen_at : (i : ℕ) (s : Solution) → slice_get chosen i ≡ Some s → shown_at (shown_of face l chosen) i ≡ shown_by face (shown face l.solutions) s
  chosen_at i s e = ap shown_in (slice_get-map (shown_by face (shown face l.solutions)) chosen i ∙ ap (option_map (shown_by face (shown face l.solutions))) e)

  paid_chosen : (i : ℕ) (s : Solution) → slice_get chosen i ≡ Some s → paid (shown_at (shown_of face l chosen) i) ≡ s.cost
  paid_chosen i s e = ap paid (chosen_at i s e)

  pub chosen_rising : (i j : ℕ) → i ≤ j → j < length chosen → paid (shown_at (shown_of face l chosen) i) ≤ paid (shown_at (shown_of face l chosen) j)
  chosen_rising i j h k =
      let s = get_there chosen i (omega (arith, h, k)) in let t = get_there chosen j k in
      omega (arith, paid_chosen i s.0 s.1, paid_chosen j t.0 t.1, best.choice.rising i j s.0 t.0 h s.1 t.1)

  pub chosen_distinct : (i j : ℕ) → i < length chosen → j < length chosen → shown_at (shown_of face l chosen) i ≡ shown_at (shown_of face l chosen) j → i ≡ j
  chosen_distinct i j h k same =
      let s = get_there chosen i h in let t = get_there chosen j k in
      best.choice.distinct i j s.0 t.0 s.1 t.1 (sym (chosen_at i s.0 s.1) ∙ same ∙ chosen_at j t.0 t.1)

  -- one of the pool is covered, and so is what shows the same
  pool_covers : (i : ℕ) (s : Solution) (v : Showing) → slice_get pool i ≡ Some s → shown_by face (shown face l.solutions) s ≡ v
      → IsAmong (length chosen) (shown_at (shown_of face l chosen)) v ⊎ ((length chosen ≡ most) × ((j : ℕ) → j < length chosen → paid (shown_at (shown_of face l chosen) j) ≤ s.cost))
  pool_covers i s v e is = by_cases best.all (best.choice.covers i s e) where
    among : ShowsIn face l chosen s → IsAmong (length chosen) (shown_at (shown_of face l chosen)) v
    among (j, t, at, same) = (j, get_within chosen j t at, chosen_at j t at ∙ same ∙ is)

    by_cases : (length chosen ≡ most) ⊎ ((i : ℕ) (s : Solution) → slice_get pool i ≡ Some s → ShowsIn face l chosen s)
        → ShowsIn face l chosen s ⊎ ((j : ℕ) (t : Solution) → slice_get chosen j ≡ Some t → t.cost ≤ s.cost)
        → IsAmong (length chosen) (shown_at (shown_of face l chosen)) v ⊎ ((length chosen ≡ most) × ((j : ℕ) → j < length chosen → paid (shown_at (shown_of face l chosen) j) ≤ s.cost))
    by_cases o (inl there) = inl (among there)
    by_cases (inr all) (inr low) = inl (among (all i s e))
    by_cases (inl n) (inr low) = inr (n, λ j h. (let t = get_there chosen j h in omega (arith, paid_chosen j t.0 t.1, low j t.0 t.1)))

  module _ (k : ℕ) (done : AllDone m l g k) (ps : List Solution) (taken : AreTaken m l g k ps) (within : AreIn ps pool) where
    -- the i-th of the alternative's shows what the j-th that was chosen shows
    abbrev Shares : ℕ → ℕ → Type 0
    Shares i j = (s : Solution) × (slice_get ps i ≡ Some s) × (shown_at (shown_of face l chosen) j ≡ shown_by face (shown face l.solutions) s)

    same_row : (s t : Solution) → shown_by face (shown face l.solutions) s ≡ shown_by face (shown face l.solutions) t
        → row (map (shown_at (shown face l.solutions)) s.inputs) ≡ row (map (shown_at (shown face l.solutions)) t.inputs)
    same_row s t e = cc

    within_k : (i : ℕ) (s : Solution) → slice_get ps i ≡ Some s → AreWithin l.spans (m.alternative g k).inputs s.inputs
    within_k i s e = subst (λ j. AreWithin l.spans (m.alternative g j).inputs s.inputs) (taken.number i s e) (taken.picks i s e).within

    apart : (i i' j : ℕ) → Shares i j → Shares i' j → i ≡ i'
    apart i i' j (s, e, is) (t, e', is') =
        taken.distinct i i' s t e e' (inputs_same m face most l right (m.alternative g k).inputs s.inputs t.inputs done (within_k i s e) (within_k i' t e') (same_row s t (sym is ∙ is')))

    module _ (v : Showing) (low : (i : ℕ) (s : Solution) → slice_get ps i ≡ Some s → s.cost ≤ paid v) where
      -- each of the first shares with one that was chosen, or those that were chosen are full
      shares_or_full : (count : ℕ) → count ≤ length ps
          → ((i : ℕ) → i < count → (j : ℕ) × (j < length chosen) × Shares i j) ⊎ IsFull most (length chosen) (shown_at (shown_of face l chosen)) v
      shares_or_full zero h = inl (λ i l. absurd (omega (arith, l)))
      shares_or_full (suc count) h =
          let s = get_there ps count (omega (arith, h)) in let at = within count s.0 s.1 in
          by_cases s.0 s.1 (shares_or_full count (omega (arith, h))) (pool_covers at.0 s.0 (shown_by face (shown face l.solutions) s.0) at.1 refl)
        where
          by_cases : (s : Solution) → slice_get ps count ≡ Some s
              → ((i : ℕ) → i < count → (j : ℕ) × (j < length chosen) × Shares i j) ⊎ IsFull most (length chosen) (shown_at (shown_of face l chosen)) v
              → IsAmong (length chosen) (shown_at (shown_of face l chosen)) (shown_by face (shown face l.solutions) s) ⊎ ((length chosen ≡ most) × ((j : ℕ) → j < length chosen → paid (shown_at (shown_of face l chosen) j) ≤ s.cost))
              → ((i : ℕ) → i < suc count → (j : ℕ) × (j < length chosen) × Shares i j) ⊎ IsFull most (length chosen) (shown_at (shown_of face l chosen)) v
          by_cases s e (inr full) o = inr full
          by_cases s e (inl all) (inr (n, dear)) = inr (n, λ j h. omega (arith, dear j h, low count s e))
          by_cases s e (inl all) (inl (j, h, is)) = inl (λ i il. more i il (same_or_not i count)) where
            more : (i : ℕ) → i < suc count → (i ≡ count) ⊎ (i ≢ count) → (j : ℕ) × (j < length chosen) × Shares i j
            more i il (inl same) = (j, h, (s, ap (slice_get ps) same ∙ e, is))
            more i il (inr other) = all i (omega (arith, il, other))

      full_of : length ps ≡ most → 0 < most → ((i : ℕ) → i < length ps → (j : ℕ) × (j < length chosen) × Shares i j) → (n : ℕ) → n ≡ length chosen
          → IsFull most (length chosen) (shown_at (shown_of face l chosen)) v
      full_of long some all zero e = absurd (let none = all 0 (omega (arith, long, some)) in omega (arith, none.1, e))
      full_of long some all (suc n) e = by_order (le_or_lt (paid (shown_at (shown_of face l chosen) n)) (paid v)) where
        by_order : (paid (shown_at (shown_of face l chosen) n) ≤ paid v) ⊎ (paid v < paid (shown_at (shown_of face l chosen) n)) → IsFull most (length chosen) (shown_at (shown_of face l chosen)) v
        by_order (inl h) =
            let many : length ps ≤ length chosen = pigeon (length chosen) (length ps) Shares all (λ i i' j a b. apart i i' j) in
            (omega (arith, many, long, best.few), λ j jl. omega (arith, h, chosen_rising j n (omega (arith, jl, e)) (omega (arith, e))))
        by_order (inr h) = absurd (
            let few : length ps ≤ n = pigeon n (length ps) Shares (λ i il. fit i il (all i il)) (λ i i' j a b. apart i i' j) in
            omega (arith, few, long, e, best.few))
          where
            other : (i j : ℕ) → Shares i j → j ≡ n → ⊥
            other i j (s, at, is) same = let cost = ap paid is in let here = ap (λ x. paid (shown_at (shown_of face l chosen) x)) same in omega (arith, cost, here, h, low i s at)

            fit : (i : ℕ) → i < length ps → (j : ℕ) × (j < length chosen) × Shares i j → (j : ℕ) × (j < n) × Shares i j
            fit i il (j, jl, shares) = (let ne : j ≢ n = other i j shares in (j, omega (arith, jl, e, ne), shares))

      pub full_from : length ps ≡ most → 0 < most → IsFull most (length chosen) (shown_at (shown_of face l chosen)) v
      full_from long some = by_cases (shares_or_full (length ps) (omega arith)) where
        by_cases : ((i : ℕ) → i < length ps → (j : ℕ) × (j < length chosen) × Shares i j) ⊎ IsFull most (length chosen) (shown_at (shown_of face l chosen)) v → IsFull most (length chosen) (shown_at (shown_of face l chosen)) v
        by_cases (inl all) = full_of long some all (length chosen) refl
        by_cases (inr full) = full

  module _ (some : 0 < most) (done : (k : ℕ) → k < m.count g → AllDone m l g k) (each : (k : ℕ) → k < m.count g → HasCheapest m face most l g pool k) where
    complete : (v : Showing) → IsShown m face g v → Covers most (length chosen) (shown_at (shown_of face l chosen)) v
    complete v is =
        let parts = parts_of m face g v is in let has = each parts.0 parts.1.2 in
        by_cases parts.0 parts.1 parts.2 parts.4 has.0 has.1 has.3 (has.2 parts.2 parts.3)
      where
        by_cases : (k : ℕ) → IsAlternative m g k → (vs : List Showing) → v ≡ shows (face g k) ((m.alternative g k).cost (map paid vs)) (row vs)
            → (ps : List Solution) → AreTaken m l g k ps → AreIn ps pool
            → ((i : ℕ) × (s : Solution) × (slice_get ps i ≡ Some s) × (map (shown_at (shown face l.solutions)) s.inputs ≡ vs)) ⊎ ((length ps ≡ most) × NoneDearer m g k ps vs)
            → Covers most (length chosen) (shown_at (shown_of face l chosen)) v
        by_cases k alt vs e ps taken within (inl (i, s, at, same)) =
            let there = within i s at in
            let shown : shown_by face (shown face l.solutions) s ≡ v = pick_shows m face most l right g k s vs (taken.picks i s at) (taken.number i s at) same ∙ sym e in
            elim (pool_covers there.0 s v there.1 shown) [
              | inl among ↦ inl among
              | inr full ↦ inr (full.0, λ j h. omega (arith, full.1 j h, ap paid shown))
            ]
        by_cases k alt vs e ps taken within (inr (long, dear)) =
            let cost = ap paid e in
            inr (full_from k (done k alt.2) ps taken within v (λ i s at. omega (arith, dear i s at, cost)) long some)

    -- they are the best of the goal
    pub chosen_best : IsBest (IsShown m face g) most (length chosen) (shown_at (shown_of face l chosen))
    chosen_best = record { few = best.few; rising = chosen_rising; distinct = chosen_distinct; complete = complete }
