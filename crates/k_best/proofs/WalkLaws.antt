-- From the first places of lists to what some inputs show, a place at a time.
use Rattle.std.proofs.Common.{◌≡◌, ℕ, zero, suc, ◌+◌, ◌-◌, ◌≤◌, ◌<◌, List, [], ◌∷◌, length, map, Some, refl, ap, sym, ◌∙◌, subst, arith, inl, inr}
use Rattle.std.specs.Prelude.{◌⊎◌, slice_get}
use Rattle.std.specs.List.{AllZip, AllByRecursion}
use Rattle.best_plan.specs.declared.solution.Solution.{Solution}
use Rattle.best_plan.specs.Moves.{AllLe}
use Rattle.k_best.specs.Showings.{Showing, paid}
use Rattle.k_best.specs.BestLists.{IsBest, Covers}
use Rattle.k_best.specs.Picks.{raise, IsTaken}
use Rattle.k_best.proofs.ListLaws.{some_same, le_or_lt, same_lists}

pub taken_or_not : (ps : List Solution) (ats : List ℕ) → IsTaken ps ats ⊎ (IsTaken ps ats → ⊥)
taken_or_not [] ats = inr (λ h. cc (h.2))
taken_or_not (p ∷ ps) ats = by_cases (same_lists p.inputs ats) (taken_or_not ps ats) where
  none : (p.inputs ≡ ats → ⊥) → (IsTaken ps ats → ⊥) → (i : ℕ) (s : Solution) → slice_get (p ∷ ps) i ≡ Some s → s.inputs ≡ ats → ⊥
  none a b zero s e h = a (ap (λ (x : Solution). x.inputs) (some_same p s e) ∙ h)
  none a b (suc i) s e h = b (i, s, e, h)

  by_cases : (p.inputs ≡ ats) ⊎ (p.inputs ≡ ats → ⊥) → IsTaken ps ats ⊎ (IsTaken ps ats → ⊥) → IsTaken (p ∷ ps) ats ⊎ (IsTaken (p ∷ ps) ats → ⊥)
  by_cases (inl e) o = inl (zero, p, refl, e)
  by_cases (inr n) (inl (i, s, e, h)) = inl (suc i, s, e, h)
  by_cases (inr n) (inr o) = inr (λ h. none n o h.0 h.1 h.2 h.3)

abbrev pub total : List ℕ → ℕ
total [] = 0
total (n ∷ ns) = n + total ns

module _ (most : ℕ) (start count : ℕ → ℕ) (val : ℕ → Showing) (made : ℕ → Showing → Type 0) where
  -- how far the goal's list has to be gone through for what costs no less than this
  pub record IsTarget (g : ℕ) (v : Showing) (t : ℕ) : Type 0 where
    pub low : start g ≤ t
    pub high : t ≤ start g + count g
    pub some : 0 < count g
    pub dearer : (a : ℕ) → start g ≤ a → a ≤ t → a < start g + count g → paid (val a) ≤ paid v
    pub here : t < start g + count g → val t ≡ v
    pub full : t ≡ start g + count g → count g ≡ most

  target : (g : ℕ) (v : Showing) → IsBest (made g) most (count g) (λ i. val (start g + i)) → 0 < most → made g v → (t : ℕ) × IsTarget g v t
  target g v best some is = by_cases (best.complete v is) where
    at : (a : ℕ) → start g ≤ a → start g + (a - start g) ≡ a
    at a h = omega (arith, h)

    by_cases : Covers most (count g) (λ i. val (start g + i)) v → (t : ℕ) × IsTarget g v t
    by_cases (inl (i, l, e)) = (
      start g + i,
      record {
        low = omega arith;
        high = omega (arith, l);
        some = omega (arith, l);
        dearer = λ a low to within. subst (λ b. paid (val b) ≤ paid v) (at a low) (subst (λ w. paid (val (start g + (a - start g))) ≤ paid w) e (best.rising (a - start g) i (omega (arith, low, to)) l));
        here = λ h. e;
        full = λ h. absurd (omega (arith, h, l));
      },
    )
    by_cases (inr (n, dear)) = (
      start g + count g,
      record {
        low = omega arith;
        high = omega arith;
        some = omega (arith, n, some);
        dearer = λ a low to within. subst (λ b. paid (val b) ≤ paid v) (at a low) (dear (a - start g) (omega (arith, low, within)));
        here = λ h. absurd (omega (arith, h));
        full = λ h. n;
      },
    )

  -- places of the lists, none past what is looked for
  abbrev pub Place : List ℕ → List Showing → List ℕ → List ℕ → Type 0
  Place [] [] [] [] = Unit {0}
  Place (g ∷ gs) (v ∷ vs) (t ∷ ts) (p ∷ ps) = (target : IsTarget g v t) × (low : start g ≤ p) × (within : p < start g + count g) × (to : p ≤ t) × Place gs vs ts ps
  Place _ _ _ _ = ⊥

  pub first_place : (gs : List ℕ) (vs : List Showing) → 0 < most → AllByRecursion (λ g. IsBest (made g) most (count g) (λ i. val (start g + i))) gs → AllZip made gs vs
      → (ts : List ℕ) × Place gs vs ts (map start gs)
  first_place [] [] some best is = ([], tt)
  first_place [] (v ∷ vs) some best is = absurd is
  first_place (g ∷ gs) [] some best is = absurd is
  first_place (g ∷ gs) (v ∷ vs) some best is =
      let t = target g v best.0 some is.0 in let rest = first_place gs vs some best.1 is.1 in
      let b : 0 < count g = t.1.some in
      (t.0 ∷ rest.0, (t.1, omega arith, omega (arith, b), t.1.low, rest.1))

  pub place_within : (gs : List ℕ) (vs : List Showing) (ts ps : List ℕ) → Place gs vs ts ps → AllZip (λ g p. (start g ≤ p) × (p < start g + count g)) gs ps
  place_within [] [] [] [] h = tt
  place_within (g ∷ gs) (v ∷ vs) (t ∷ ts) (p ∷ ps) h = ((h.1, h.2), place_within gs vs ts ps h.4)
  place_within _ _ _ _ h = absurd h

  pub place_costs : (gs : List ℕ) (vs : List Showing) (ts ps : List ℕ) → Place gs vs ts ps → AllLe (map paid (map val ps)) (map paid vs)
  place_costs [] [] [] [] h = tt
  place_costs (g ∷ gs) (v ∷ vs) (t ∷ ts) (p ∷ ps) h = (h.0.dearer p h.1 h.3 h.2, place_costs gs vs ts ps h.4)
  place_costs _ _ _ _ h = absurd h

  place_total : (gs : List ℕ) (vs : List Showing) (ts ps : List ℕ) → Place gs vs ts ps → total ps ≤ total ts
  place_total [] [] [] [] h = omega arith
  place_total (g ∷ gs) (v ∷ vs) (t ∷ ts) (p ∷ ps) h = omega (arith, h.3, place_total gs vs ts ps h.4)
  place_total _ _ _ _ h = absurd h

  -- one place on from these
  abbrev pub OneOn : List ℕ → List Showing → List ℕ → List ℕ → Type 0
  OneOn gs vs ts ps = (j : ℕ) × (l : j < length ps) × (total (raise ps j) ≡ total ps + 1) × Place gs vs ts (raise ps j)

  -- they show it, or one of them can go on, or one has come to the end of a full list
  abbrev pub Step : ℕ → List ℕ → List Showing → List ℕ → List ℕ → Type 0
  Step n gs vs ts ps = (map val ps ≡ vs) ⊎ (OneOn gs vs ts ps ⊎ (most ≤ n))

  step : (n : ℕ) (gs : List ℕ) (vs : List Showing) (ts ps : List ℕ) → Place gs vs ts ps → AllZip (λ g p. p < start g + n) gs ps → Step n gs vs ts ps
  step n [] [] [] [] h near = inl refl
  step n (g ∷ gs) (v ∷ vs) (t ∷ ts) (p ∷ ps) (target, low, within, to, rest) near =
      by_order (le_or_lt t p) (le_or_lt (start g + count g) (p + 1)) (step n gs vs ts ps rest near.1)
    where
      behind : Step n gs vs ts ps → val p ≡ v → Step n (g ∷ gs) (v ∷ vs) (t ∷ ts) (p ∷ ps)
      behind (inl e) here = inl cc
      behind (inr (inl (j, l, e, place))) here = inr (inl (suc j, omega (arith, l), omega (arith, e), (target, low, within, to, place)))
      behind (inr (inr full)) here = inr (inr full)

      by_order : (t ≤ p) ⊎ (p < t) → (start g + count g ≤ p + 1) ⊎ (p + 1 < start g + count g) → Step n gs vs ts ps → Step n (g ∷ gs) (v ∷ vs) (t ∷ ts) (p ∷ ps)
      by_order (inl a) b s =
          let same : t ≡ p = omega (arith, a, to) in
          behind s (ap val (sym same) ∙ target.here (omega (arith, same, within)))
      by_order (inr a) (inl b) s =
          let full = target.full (omega (arith, a, b, target.high)) in inr (inr (omega (arith, full, b, near.0)))
      by_order (inr a) (inr b) s = inr (inl (zero, omega arith, omega arith, (target, omega (arith, low), b, omega (arith, a), rest)))
  step n _ _ _ _ h near = absurd h

  -- one of the solutions shows it, or one that is not among them is a place on, or they are as many as are wanted
  abbrev pub Ends : List ℕ → List Showing → List ℕ → List Solution → Type 0
  Ends gs vs ts ps = ((i : ℕ) × (s : Solution) × (slice_get ps i ≡ Some s) × (map val s.inputs ≡ vs))
      ⊎ (((i : ℕ) × (s : Solution) × (j : ℕ) × (slice_get ps i ≡ Some s) × (j < length s.inputs) × (new : IsTaken ps (raise s.inputs j) → ⊥) × Place gs vs ts (raise s.inputs j))
      ⊎ (most ≤ length ps))

  module _ (gs : List ℕ) (vs : List Showing) (ts : List ℕ) (ps : List Solution)
      (near : (i : ℕ) (s : Solution) → slice_get ps i ≡ Some s → AllZip (λ g p. p < start g + length ps) gs s.inputs) where
    on : (i : ℕ) (s : Solution) → slice_get ps i ≡ Some s → ((i' : ℕ) (s' : Solution) → slice_get ps i' ≡ Some s' → Place gs vs ts s'.inputs → total s'.inputs ≡ total s.inputs + 1 → Ends gs vs ts ps)
        → (j : ℕ) → j < length s.inputs → total (raise s.inputs j) ≡ total s.inputs + 1 → Place gs vs ts (raise s.inputs j)
        → IsTaken ps (raise s.inputs j) ⊎ (IsTaken ps (raise s.inputs j) → ⊥) → Ends gs vs ts ps
    on i s e again j l one place (inl (i', s', e', same)) = again i' s' e' (subst (Place gs vs ts) (sym same) place) (ap total same ∙ one)
    on i s e again j l one place (inr new) = inr (inl (i, s, j, e, l, new, place))

    finish : (i : ℕ) (s : Solution) → slice_get ps i ≡ Some s → ((i' : ℕ) (s' : Solution) → slice_get ps i' ≡ Some s' → Place gs vs ts s'.inputs → total s'.inputs ≡ total s.inputs + 1 → Ends gs vs ts ps)
        → Step (length ps) gs vs ts s.inputs → Ends gs vs ts ps
    finish i s e again (inl x) = inl (i, s, e, x)
    finish i s e again (inr (inl (j, l, one, place))) = on i s e again j l one place (taken_or_not ps (raise s.inputs j))
    finish i s e again (inr (inr full)) = inr (inr full)

    pub walk : (fuel i : ℕ) (s : Solution) → slice_get ps i ≡ Some s → Place gs vs ts s.inputs → total ts ≤ total s.inputs + fuel → Ends gs vs ts ps
    walk zero i s e place low =
        finish i s e (λ i' s' e' place' one. absurd (omega (arith, low, one, place_total gs vs ts s'.inputs place'))) (step (length ps) gs vs ts s.inputs place (near i s e))
    walk (suc fuel) i s e place low =
        finish i s e (λ i' s' e' place' one. walk fuel i' s' e' place' (omega (arith, low, one))) (step (length ps) gs vs ts s.inputs place (near i s e))
