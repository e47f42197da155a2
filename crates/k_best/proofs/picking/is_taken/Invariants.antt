use Rattle.std.proofs.Common.{◌≡◌, ℕ, ◌<◌, Some}
use Rattle.std.specs.Prelude.{slice_get}
use Rattle.best_plan.specs.declared.solution.Solution.{Solution}
use Rattle.k_best.proofs.picking.is_taken.Given as goal

-- none so far has these inputs
abbrev pub invariant-loop-solution : goal.invariant-loop-solution
invariant-loop-solution l = (j : ℕ) (s : Solution) → j < l.solution-index → slice_get l.taken j ≡ Some s → s.inputs ≡ l.inputs → ⊥
