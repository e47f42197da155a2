-- Alternatives of the same form.
use Rattle.std.specs.Prelude.{◌≡◌, ℕ, ◌≤◌, List, length}
use Rattle.std.specs.List.{AllByRecursion}
use Rattle.pr_value.specs.Capped.{cap}
use Rattle.best_plan.specs.Moves.{Alternative}

-- as many inputs, and the same cost for all costs of inputs
pub record AreAlike (a b : Alternative) : Type 0 where
  pub inputs : length a.inputs ≡ length b.inputs
  pub cost : (costs : List ℕ) → length costs ≡ length a.inputs
      → AllByRecursion (λ c. c ≤ cap) costs → a.cost costs ≡ b.cost costs
