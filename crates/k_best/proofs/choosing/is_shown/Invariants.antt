use Rattle.std.proofs.Common.{◌≡◌, ℕ, ◌<◌, Some}
use Rattle.std.specs.Prelude.{slice_get}
use Rattle.best_plan.specs.declared.solution.Solution.{Solution}
use Rattle.k_best.specs.Showings.{shown, shown_by}
use Rattle.k_best.proofs.choosing.is_shown.Given as goal

-- none so far shows the same
abbrev pub invariant-loop-solution : goal.invariant-loop-solution
invariant-loop-solution g l =
    let face = g.M.Faces.face l.moves in let seen = shown face l.lists.solutions in
    (j : ℕ) (s : Solution) → j < l.solution-index → slice_get l.chosen j ≡ Some s → shown_by face seen s ≡ shown_by face seen l.other → ⊥
