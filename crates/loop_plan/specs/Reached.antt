-- The goals that were met on the ways from a root.
use Rattle.std.specs.Prelude.{◌≡◌, ℕ, ◌+◌, ◌<◌, ◌⊎◌, ◌++◌, List, [], ◌∷◌, zero, suc, Some, None, slice_get, slice_set}
use Rattle.std.specs.List.{Contains}
use Rattle.pr_value.specs.Capped.{cap}
use Rattle.best_plan.specs.Moves.{Graph, IsAlternative, IsUnfolded}
use Rattle.best_plan.specs.Tables.{known, with_room}
use Rattle.loop_plan.specs.Leads.{Leads}
use Rattle.loop_plan.specs.declared.reached.Reached.{Reached}
use Rattle.loop_plan.specs.declared.way.Way.{Way}

abbrev pub inputs : Graph → Way → List ℕ
inputs m w = (m.alternative w.goal w.k).inputs

abbrev pub bound : Reached → ℕ → ℕ
bound r g = (known r.table).bound g

-- the root leads to the goal, and all its alternatives are listed
pub record IsMet (m : Graph) (r : Reached) (g : ℕ) : Type 0 where
  pub past : bound r g ≡ cap + 1
  pub leads : Leads m r.root g
  pub unfolded : IsUnfolded m g
  pub all : (k : ℕ) → k < m.count g → Contains r.ways (record { goal = g; k = k })

-- what was met is listed, and the inputs of the first n alternatives were met
pub record IsReached (m : Graph) (r : Reached) (n : ℕ) : Type 0 where
  pub each : (g : ℕ) → (bound r g ≡ 0) ⊎ IsMet m r g
  pub none : (g : ℕ) → (known r.table).choice g ≡ None
  pub ways : (w : Way) → Contains r.ways w
      → IsAlternative m w.goal w.k × (bound r w.goal ≡ cap + 1)
  pub inputs : (j : ℕ) (w : Way) → j < n → slice_get r.ways j ≡ Some w
      → (h : ℕ) → Contains (inputs m w) h → bound r h ≡ cap + 1

-- nothing that was met is lost, and no alternative changes its place
pub record Grows (old new : Reached) : Type 0 where
  pub root : new.root ≡ old.root
  pub met : (g : ℕ) → bound old g ≡ cap + 1 → bound new g ≡ cap + 1
  pub ways : (j : ℕ) (w : Way) → slice_get old.ways j ≡ Some w → slice_get new.ways j ≡ Some w

-- a goal's first n alternatives
abbrev pub ways_of : ℕ → ℕ → List Way
ways_of g zero = []
ways_of g (suc n) = ways_of g n ++ record { goal = g; k = n } ∷ []

-- one more goal met, of so many, with its first n alternatives
abbrev pub with_met : Reached → ℕ → ℕ → ℕ → Reached
with_met r goals g n = record {
  root = r.root;
  table = slice_set (with_room r.table goals) g (record { bound = cap + 1; choice = None });
  ways = r.ways ++ ways_of g n;
}
