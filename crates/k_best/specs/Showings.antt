-- What the solutions of a list show.
use Rattle.std.specs.Prelude.{ℕ, List, [], ◌∷◌, ◌++◌, map, Option, Some, None, slice_get}
use Rattle.best_plan.specs.declared.solution.Solution.{Solution}

-- a solution's face, its cost and what its inputs show; or the first of some inputs and the others
pub data Showing : Type 0 where
  shows : ℕ → ℕ → Showing → Showing
  input : Showing → Showing → Showing
  no_input : Showing

-- the cost that is shown
abbrev pub paid : Showing → ℕ
paid (shows face cost inputs) = cost
paid (input first others) = 0
paid no_input = 0

-- inputs in order
abbrev pub row : List Showing → Showing
row [] = no_input
row (v ∷ vs) = input v (row vs)

abbrev pub shown_in : Option Showing → Showing
shown_in None = no_input
shown_in (Some v) = v

-- what the solution at that place shows
abbrev pub shown_at : List Showing → ℕ → Showing
shown_at vs at = shown_in (slice_get vs at)

-- what a solution shows, where those before it show these
abbrev pub shown_by : (ℕ → ℕ → ℕ) → List Showing → Solution → Showing
shown_by face vs s = shows (face s.goal s.k) s.cost (row (map (shown_at vs) s.inputs))

abbrev pub shown_after : (ℕ → ℕ → ℕ) → List Showing → List Solution → List Showing
shown_after face vs [] = vs
shown_after face vs (s ∷ ss) = shown_after face (vs ++ shown_by face vs s ∷ []) ss

-- what each solution of the list shows
abbrev pub shown : (ℕ → ℕ → ℕ) → List Solution → List Showing
shown face ss = shown_after face [] ss
