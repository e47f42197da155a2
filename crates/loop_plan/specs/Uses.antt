-- Which alternatives have a goal as an input.
use Rattle.std.specs.Prelude.{◌≡◌, ℕ, ◌<◌, List, [], Option, Some, None, slice_get}
use Rattle.std.specs.List.{Contains}
use Rattle.best_plan.specs.Moves.{Graph, IsAlternative}
use Rattle.loop_plan.specs.Reached.{inputs}
use Rattle.loop_plan.specs.declared.way.Way.{Way}

abbrev pub uses_in : Option (List Way) → List Way
uses_in None = []
uses_in (Some ws) = ws

-- the alternatives that are listed for the goal
abbrev pub uses_at : List (List Way) → ℕ → List Way
uses_at uses h = uses_in (slice_get uses h)

-- of the first n of these alternatives each is listed for each input, and nothing but alternatives
pub record IsUses (m : Graph) (ws : List Way) (n : ℕ) (uses : List (List Way)) : Type 0 where
  pub all : (j : ℕ) (w : Way) → j < n → slice_get ws j ≡ Some w
      → (h : ℕ) → Contains (inputs m w) h → Contains (uses_at uses h) w
  pub only : (h : ℕ) (w : Way) → Contains (uses_at uses h) w → IsAlternative m w.goal w.k
