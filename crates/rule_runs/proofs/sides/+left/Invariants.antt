use Rattle.std.proofs.Common.{◌≡◌, map, take}
use Rattle.rule_ast.specs.Seen.{seen_left_in, seen_operator}
use Rattle.rule_runs.specs.SeenSides.{seen_side}
use Rattle.rule_runs.specs.Sides.{left_side_in}
use Rattle.rule_runs.proofs.sides.+left.Given as goal

abbrev pub invariant-left_inputs-loop-input : goal.invariant-left_inputs-loop-input
invariant-left_inputs-loop-input l = map seen_side l.sides ≡ map (λ x. left_side_in (map seen_operator l.operators) l.numbers (seen_left_in x)) (take l.input-index l.inputs)
