-- How the definitions see a side of the code.
use Rattle.std.specs.Prelude.{[]}
use Rattle.pr_value.specs.Trees.{tree}
use Rattle.rule_runs.specs.Sides.{Side, operator, stream}
use Rattle.rule_runs.specs.declared.sides.Side as rust
use Rattle.rule_runs.specs.declared.sides.Side.TheOpen.{Side-F}
use Rattle.rule_runs.specs.declared.sides.Side.TheFolds.{fold-Side}

-- one level, with each input already seen
abbrev pub side_level : Side-F Side → Side
side_level (Side-F.Operator op inputs) = tree (operator op) inputs
side_level (Side-F.Stream place) = tree (stream place) []

abbrev pub seen_side : rust.Side → Side
seen_side = fold-Side Side side_level
