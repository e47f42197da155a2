use Rattle.std.proofs.Common.{◌≡◌, map, take}
use Rattle.rule_ast.specs.Seen.{seen_right_in, seen_operator}
use Rattle.rule_runs.specs.SeenSides.{seen_side}
use Rattle.rule_runs.specs.Sides.{right_side_in}
use Rattle.rule_runs.proofs.sides.+right.Given as goal

abbrev pub invariant-right_inputs-loop-input : goal.invariant-right_inputs-loop-input
invariant-right_inputs-loop-input l = map seen_side l.sides ≡ map (λ x. right_side_in (map seen_operator l.operators) l.numbers (seen_right_in x)) (take l.input-index l.inputs)
