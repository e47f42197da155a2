-- What solutions of sound lists show, and lists that grow.
use Rattle.std.proofs.Common.{◌≡◌, ℕ, ◌-◌, ◌≤◌, ◌<◌, List, [], ◌∷◌, ◌++◌, length, map, take, Some, refl, ap, sym, ◌∙◌, subst, arith, inl, inr}
use Rattle.std.specs.Prelude.{◌⊎◌, slice_get}
use Rattle.std.specs.List.{AllZip, AllByRecursion}
use Rattle.std.proofs.lemmas.List.{take-append-le}
use Rattle.best_plan.specs.declared.solution.Solution.{Solution}
use Rattle.best_plan.specs.Moves.{Graph, IsAlternative}
use Rattle.best_plan.specs.Solutions.{cost_in, SolvesAt, IsSolution, AreSound}
use Rattle.k_best.specs.Showings.{Showing, shows, paid, row, shown, shown_at, shown_by}
use Rattle.k_best.specs.BestLists.{IsShown}
use Rattle.k_best.specs.Picks.{AreShown}
use Rattle.k_best.proofs.ListLaws.{get_left, get_right, get_take, got_take, get_within, get_more, le_or_lt}
use Rattle.k_best.proofs.ShowingLaws.{long_take, shown_here, paid_at}

-- inputs stand before the solution
pub before : (us : List Solution) (gs ats : List ℕ) (n : ℕ) → length us ≤ n → AllZip (SolvesAt us) gs ats → AllByRecursion (λ at. at < n) ats
before us [] [] n l h = tt
before us [] (at ∷ ats) n l h = absurd h
before us (g ∷ gs) [] n l h = tt
before us (g ∷ gs) (at ∷ ats) n l h = (omega (arith, l, get_within us at h.0.0 h.0.1), before us gs ats n l h.1)

zip_grows : (us ws : List Solution) → ((p : ℕ) (s : Solution) → slice_get us p ≡ Some s → slice_get ws p ≡ Some s) → (gs ats : List ℕ) → AllZip (SolvesAt us) gs ats → AllZip (SolvesAt ws) gs ats
zip_grows us ws more [] [] h = tt
zip_grows us ws more [] (at ∷ ats) h = absurd h
zip_grows us ws more (g ∷ gs) [] h = absurd h
zip_grows us ws more (g ∷ gs) (at ∷ ats) h = ((h.0.0, more at h.0.0 h.0.1, h.0.2), zip_grows us ws more gs ats h.1)

costs_grow : (us ws : List Solution) → ((p : ℕ) (s : Solution) → slice_get us p ≡ Some s → slice_get ws p ≡ Some s) → (gs ats : List ℕ) → AllZip (SolvesAt us) gs ats
    → map (λ at. cost_in (slice_get us at)) ats ≡ map (λ at. cost_in (slice_get ws at)) ats
costs_grow us ws more [] [] h = refl
costs_grow us ws more [] (at ∷ ats) h = absurd h
costs_grow us ws more (g ∷ gs) [] h = absurd h
costs_grow us ws more (g ∷ gs) (at ∷ ats) h =
    let here = h.0.1 in let there = more at h.0.0 h.0.1 in let rest = costs_grow us ws more gs ats h.1 in cc

-- a solution from a list is one from a list with more
pub solution_grows : (m : Graph) (us ws : List Solution) (s : Solution) → ((p : ℕ) (t : Solution) → slice_get us p ≡ Some t → slice_get ws p ≡ Some t) → IsSolution m us s → IsSolution m ws s
solution_grows m us ws s more is = record {
  alternative = is.alternative;
  inputs = zip_grows us ws more (m.alternative s.goal s.k).inputs s.inputs is.inputs;
  cost = is.cost ∙ ap (m.alternative s.goal s.k).cost (costs_grow us ws more (m.alternative s.goal s.k).inputs s.inputs is.inputs);
}

-- solutions from a sound list make it a longer one
pub sound_more : (m : Graph) (ss xs : List Solution) → AreSound m ss → ((i : ℕ) (x : Solution) → slice_get xs i ≡ Some x → IsSolution m ss x) → AreSound m (ss ++ xs)
sound_more m ss xs sound each at s e = by_order (le_or_lt (length ss) at) where
  by_order : (length ss ≤ at) ⊎ (at < length ss) → IsSolution m (take at (ss ++ xs)) s
  by_order (inl h) =
      solution_grows m ss (take at (ss ++ xs)) s (λ p t is. get_take at (ss ++ xs) p (omega (arith, h, get_within ss p t is)) ∙ get_more ss xs p t is)
      (each (at - length ss) s (sym (get_right ss xs (at - length ss) at (omega (arith, h))) ∙ e))
  by_order (inr h) =
      let same : take at (ss ++ xs) ≡ take at ss = take-append-le at ss xs (omega (arith, h)) in
      subst (λ us. IsSolution m us s) (sym same) (sound at s (sym (get_left ss xs at h) ∙ e))

module _ (m : Graph) (face : ℕ → ℕ → ℕ) where
  -- what is shown by an alternative's solution, from what its inputs show
  abbrev pub Parts : ℕ → Showing → Type 0
  Parts g v = (k : ℕ) × (is : IsAlternative m g k) × (vs : List Showing) × (inputs : AreShown m face g k vs)
      × (v ≡ shows (face g k) ((m.alternative g k).cost (map paid vs)) (row vs))

  inputs_shown : (us : List Solution) → AreSound m us → (n : ℕ) (gs ats : List ℕ) → AllZip (SolvesAt (take n us)) gs ats → AllZip (IsShown m face) gs (map (shown_at (shown face us)) ats)
  inputs_shown us sound n [] [] h = tt
  inputs_shown us sound n [] (at ∷ ats) h = absurd h
  inputs_shown us sound n (g ∷ gs) [] h = absurd h
  inputs_shown us sound n (g ∷ gs) (at ∷ ats) h =
      ((us, sound, at, (h.0.0, (got_take n us at h.0.0 h.0.1).1, h.0.2), refl), inputs_shown us sound n gs ats h.1)

  pub costs_shown : (us : List Solution) (n : ℕ) (ats : List ℕ) → AllByRecursion (λ at. at < n) ats → map (λ at. cost_in (slice_get (take n us) at)) ats ≡ map paid (map (shown_at (shown face us)) ats)
  costs_shown us n [] h = refl
  costs_shown us n (at ∷ ats) h =
      let a = get_take n us at h.0 in let b = paid_at face us at in let rest = costs_shown us n ats h.1 in cc

  shown_parts : (us : List Solution) → AreSound m us → (at : ℕ) (s : Solution) → slice_get us at ≡ Some s → Parts s.goal (shown_at (shown face us) at)
  shown_parts us sound at s e =
      let is = sound at s e in
      let a = m.alternative s.goal s.k in
      let low = before (take at us) a.inputs s.inputs at (omega (arith, long_take face us at s e)) is.inputs in
      let cost : s.cost ≡ a.cost (map paid (map (shown_at (shown face us)) s.inputs)) = is.cost ∙ ap a.cost (costs_shown us at s.inputs low) in (
        s.k,
        is.alternative,
        map (shown_at (shown face us)) s.inputs,
        inputs_shown us sound at a.inputs s.inputs is.inputs,
        shown_here face us at s e low ∙ ap (λ c. shows (face s.goal s.k) c (row (map (shown_at (shown face us)) s.inputs))) cost,
      )

  pub parts_of : (g : ℕ) (v : Showing) → IsShown m face g v → Parts g v
  parts_of g v is =
      let s = is.3 in
      subst (Parts g) is.4 (subst (λ h. Parts h (shown_at (shown face is.0) is.2)) s.2 (shown_parts is.0 is.1 is.2 s.0 s.1))

  pub sound_inputs : (ss : List Solution) → AreSound m ss → (at : ℕ) (s : Solution) → slice_get ss at ≡ Some s → (n : ℕ) → at ≤ n → AllByRecursion (λ a. a < n) s.inputs
  sound_inputs ss sound at s e n le = before (take at ss) (m.alternative s.goal s.k).inputs s.inputs n (omega (arith, le, long_take face ss at s e)) (sound at s e).inputs

  -- each of a sound list shows what it shows from all of the list
  pub sound_shown : (ss : List Solution) → AreSound m ss → (at : ℕ) (s : Solution) → slice_get ss at ≡ Some s → shown_at (shown face ss) at ≡ shown_by face (shown face ss) s
  sound_shown ss sound at s e = shown_here face ss at s e (sound_inputs ss sound at s e at (omega arith))
