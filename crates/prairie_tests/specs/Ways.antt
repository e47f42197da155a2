-- Alternatives as data.
use Rattle.std.specs.Prelude.{ℕ, ◌+◌, ◌-◌, ◌*◌, min, max, List, [], ◌∷◌, map, take, Option, Some, None, slice_get, nat_lt, if◌then◌else◌}
use Rattle.pr_value.specs.Capped.{cap}
use Rattle.best_plan.specs.Moves.{Alternative}
use Rattle.prairie_tests.specs.declared.ways.Kind.{Kind}
use Rattle.prairie_tests.specs.declared.ways.Kind.TheVariants.{Sum, Least, Product}
use Rattle.prairie_tests.specs.declared.ways.Way.{Way}

abbrev pub join : Kind → ℕ → ℕ → ℕ
join Sum total cost = min (total + cost) cap
join Least total cost = min (min total cost) cap
join Product total cost = min (total * cost) cap

abbrev pub joined : Kind → ℕ → List ℕ → ℕ
joined kind total [] = total
joined kind total (c ∷ cs) = joined kind (join kind total c) cs

abbrev pub ways_in : Option (List Way) → List Way
ways_in None = []
ways_in (Some ways) = ways

abbrev pub ways_of : List (List Way) → ℕ → List Way
ways_of all g = ways_in (slice_get all g)

-- the number as an input of the goal, where n goals are there
abbrev pub input_at : ℕ → ℕ → ℕ → ℕ
input_at n g i = min (max i (g + 1)) (n - 1)

abbrev pub inputs_of : ℕ → ℕ → Way → List ℕ
inputs_of n g way = if nat_lt (g + 1) n then map (input_at n g) (take 4 way.inputs) else []

abbrev pub as_alternative : ℕ → ℕ → Option Way → Alternative
as_alternative n g None = record { inputs = []; cost = λ cs. 0 }
as_alternative n g (Some way) = record {
  inputs = inputs_of n g way;
  cost = joined way.kind (min way.from cap);
}
