-- The choices that such data are, where inputs may be any goals.
use Rattle.std.specs.Prelude.{ℕ, ◌-◌, min, List, [], length, map, take, Option, Some, None, slice_get}
use Rattle.pr_value.specs.Capped.{cap}
use Rattle.best_plan.specs.Moves.{Alternative, Graph}
use Rattle.prairie_tests.specs.declared.ways.Way.{Way}
use Rattle.prairie_tests.specs.Ways.{ways_of, joined}
use Rattle.prairie_tests.specs.Listed.{is_opened}

-- the number as a goal, where n goals are there
abbrev pub goal_at : ℕ → ℕ → ℕ
goal_at n i = min i (n - 1)

abbrev pub as_looping : ℕ → Option Way → Alternative
as_looping n None = record { inputs = []; cost = λ cs. 0 }
as_looping n (Some way) = record {
  inputs = map (goal_at n) (take 4 way.inputs);
  cost = joined way.kind (min way.from cap);
}

abbrev pub looping_of : List (List Way) → List ℕ → Graph
looping_of all opened = record {
  goals = length all;
  unfolded = is_opened opened;
  count = λ g. length (ways_of all g);
  alternative = λ g k. as_looping (length all) (slice_get (ways_of all g) k);
}
