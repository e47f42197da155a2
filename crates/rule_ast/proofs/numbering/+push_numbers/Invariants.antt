use Rattle.std.proofs.Common.{◌≡◌, ◌++◌, flat_map, take}
use Rattle.rule_ast.specs.Descs.{stream_numbers}
use Rattle.rule_ast.specs.Seen.{seen_left_in}
use Rattle.rule_ast.proofs.numbering.+push_numbers.Given as goal

abbrev pub invariant-push_left_ins-loop-input : goal.invariant-push_left_ins-loop-input
invariant-push_left_ins-loop-input l =
    l.out.items ≡ l.initial.out.items ++ flat_map (λ x. stream_numbers (seen_left_in x)) (take l.input-index l.inputs)
