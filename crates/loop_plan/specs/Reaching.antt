-- Which costs goals reach that may lead back to themselves.
use Rattle.std.specs.Prelude.{◌≡◌, ℕ, List, Some, slice_get}
use Rattle.best_plan.specs.Moves.{Graph, Reaches}
use Rattle.best_plan.specs.Solutions.{AreSound}
use Rattle.best_plan.specs.declared.solution.Solution.{Solution}

-- the place of the list has a solution of the goal, of this cost
abbrev pub CostsAt : List Solution → ℕ → ℕ → ℕ → Type 0
CostsAt ss g c at = (s : Solution) × (slice_get ss at ≡ Some s) × (s.goal ≡ g) × (s.cost ≡ c)

-- some sound list has a solution of the goal, of this cost
abbrev pub reaches : Graph → Reaches
reaches m g c = (ss : List Solution) × AreSound m ss × (at : ℕ) × CostsAt ss g c at
