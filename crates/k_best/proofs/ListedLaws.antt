-- What the lists of goals say, where they are right.
use Rattle.std.proofs.Common.{◌≡◌, ℕ, ◌+◌, ◌-◌, ◌≤◌, ◌<◌, List, [], ◌∷◌, length, map, Option, Some, None, refl, ap, sym, ◌∙◌, subst, arith}
use Rattle.std.specs.Prelude.{slice_get}
use Rattle.std.specs.List.{AllZip, AllByRecursion}
use Rattle.pr_value.specs.Capped.{cap}
use Rattle.best_plan.specs.declared.solution.Solution.{Solution}
use Rattle.best_plan.specs.Moves.{Graph, IsAlternative}
use Rattle.best_plan.specs.Solutions.{SolvesAt, IsSolution}
use Rattle.k_best.specs.declared.lists.Span.{Span}
use Rattle.k_best.specs.declared.lists.Lists.{Lists}
use Rattle.k_best.specs.Showings.{Showing, shows, paid, row, shown, shown_at, shown_by}
use Rattle.k_best.specs.BestLists.{IsShown, IsBest}
use Rattle.k_best.specs.Lists.{span_of, span_or, span_at, IsDone, InSpan, AreWithin, cost_at, IsListed, AreRight, EndBy}
use Rattle.k_best.specs.Picks.{IsPick, AllDone}
use Rattle.k_best.proofs.ShowingLaws.{paid_at}

pub costs_capped : (ss : List Solution) → ((at : ℕ) → cost_at ss at ≤ cap) → (ats : List ℕ) → AllByRecursion (λ c. c ≤ cap) (map (cost_at ss) ats)
costs_capped ss capped [] = tt
costs_capped ss capped (at ∷ ats) = (capped at, costs_capped ss capped ats)

-- places of lists stand before this
pub within_before : (spans : List (Option Span)) (n : ℕ) → EndBy spans n → (gs ats : List ℕ) → AreWithin spans gs ats → AllByRecursion (λ at. at < n) ats
within_before spans n ends [] [] h = tt
within_before spans n ends [] (at ∷ ats) h = absurd h
within_before spans n ends (g ∷ gs) [] h = tt
within_before spans n ends (g ∷ gs) (at ∷ ats) h = (omega (arith, h.0.1, ends g), within_before spans n ends gs ats h.1)

module _ (m : Graph) (face : ℕ → ℕ → ℕ) (most : ℕ) (l : Lists) (right : AreRight m face most l) where
  pub listed_at : (g : ℕ) → IsDone l.spans g → IsListed m face most l.solutions g (span_at l.spans g)
  listed_at g done = subst (IsListed m face most l.solutions g) (sym (ap span_or done.1)) (right.listed g done.0 done.1)

  ends_in : (g : ℕ) (o : Option Span) → span_of (slice_get l.spans g) ≡ o → (span_or o).start + (span_or o).count ≤ length l.solutions
  ends_in g None e = omega arith
  ends_in g (Some p) e = (right.listed g p e).within

  pub ends : EndBy l.spans (length l.solutions)
  ends g = ends_in g (span_of (slice_get l.spans g)) refl

  pub bests : (gs : List ℕ) → AllByRecursion (IsDone l.spans) gs
      → AllByRecursion (λ g. IsBest (IsShown m face g) most (span_at l.spans g).count (λ i. shown_at (shown face l.solutions) ((span_at l.spans g).start + i))) gs
  bests [] h = tt
  bests (g ∷ gs) h = ((listed_at g h.0).best, bests gs h.1)

  solve : (gs ats : List ℕ) → AllByRecursion (IsDone l.spans) gs → AreWithin l.spans gs ats → AllZip (SolvesAt l.solutions) gs ats
  solve [] [] done h = tt
  solve [] (at ∷ ats) done h = absurd h
  solve (g ∷ gs) [] done h = absurd h
  solve (g ∷ gs) (at ∷ ats) done h = ((listed_at g done.0).solves at h.0, solve gs ats done.1 h.1)

  -- a pick is a solution from the list
  pub pick_solution : (g : ℕ) (s : Solution) → AllDone m l g s.k → IsPick m l g s → IsSolution m l.solutions s
  pick_solution g s done pick = record {
    alternative = subst (λ h. IsAlternative m h s.k) (sym pick.goal) pick.alternative;
    inputs = subst (λ h. AllZip (SolvesAt l.solutions) (m.alternative h s.k).inputs s.inputs) (sym pick.goal) (solve (m.alternative g s.k).inputs s.inputs done pick.within);
    cost = subst (λ h. s.cost ≡ (m.alternative h s.k).cost (map (cost_at l.solutions) s.inputs)) (sym pick.goal) pick.cost;
  }

  pub costs_paid : (ats : List ℕ) → map (cost_at l.solutions) ats ≡ map paid (map (shown_at (shown face l.solutions)) ats)
  costs_paid [] = refl
  costs_paid (at ∷ ats) = let a = paid_at face l.solutions at in let b = costs_paid ats in cc

  -- what it shows, where its inputs show these
  pub pick_shows : (g k : ℕ) (s : Solution) (vs : List Showing) → IsPick m l g s → s.k ≡ k → map (shown_at (shown face l.solutions)) s.inputs ≡ vs
      → shown_by face (shown face l.solutions) s ≡ shows (face g k) ((m.alternative g k).cost (map paid vs)) (row vs)
  pick_shows g k s vs pick number same =
      let cost : s.cost ≡ (m.alternative g s.k).cost (map paid vs) = pick.cost ∙ ap (m.alternative g s.k).cost (costs_paid s.inputs ∙ ap (map paid) same) in
      ap (λ h. shows (face h s.k) s.cost (row (map (shown_at (shown face l.solutions)) s.inputs))) pick.goal
      ∙ ap (λ c. shows (face g s.k) c (row (map (shown_at (shown face l.solutions)) s.inputs))) cost
      ∙ ap (λ ws. shows (face g s.k) ((m.alternative g s.k).cost (map paid vs)) (row ws)) same
      ∙ ap (λ j. shows (face g j) ((m.alternative g j).cost (map paid vs)) (row vs)) number

  place_same : (g x y : ℕ) → IsDone l.spans g → InSpan (span_at l.spans g) x → InSpan (span_at l.spans g) y → shown_at (shown face l.solutions) x ≡ shown_at (shown face l.solutions) y → x ≡ y
  place_same g x y done a b same =
      let start = (span_at l.spans g).start in
      let at : (z : ℕ) → start ≤ z → start + (z - start) ≡ z = λ z h. omega (arith, h) in
      let one = (listed_at g done).best.distinct (x - start) (y - start) (omega (arith, a.0, a.1)) (omega (arith, b.0, b.1))
      (ap (shown_at (shown face l.solutions)) (at x a.0) ∙ same ∙ sym (ap (shown_at (shown face l.solutions)) (at y b.0))) in
      omega (arith, one, a.0, b.0)

  -- inputs that show the same are the same
  pub inputs_same : (gs xs ys : List ℕ) → AllByRecursion (IsDone l.spans) gs → AreWithin l.spans gs xs → AreWithin l.spans gs ys
      → row (map (shown_at (shown face l.solutions)) xs) ≡ row (map (shown_at (shown face l.solutions)) ys) → xs ≡ ys
  inputs_same [] [] [] done a b same = refl
  inputs_same (g ∷ gs) (x ∷ xs) (y ∷ ys) done a b same =
      let first : x ≡ y = place_same g x y done.0 a.0 b.0 (cc) in
      let rest : xs ≡ ys = inputs_same gs xs ys done.1 a.1 b.1 (cc) in cc
  inputs_same [] (x ∷ xs) ys done a b same = absurd a
  inputs_same [] [] (y ∷ ys) done a b same = absurd b
  inputs_same (g ∷ gs) [] ys done a b same = absurd a
  inputs_same (g ∷ gs) (x ∷ xs) [] done a b same = absurd b
