use Rattle.std.proofs.Common.{◌≡◌, ◌++◌, flat_map, take}
use Rattle.rule_ast.specs.Seen.{seen_right_in}
use Rattle.rule_ast.specs.Descs.{right_descs}
use Rattle.rule_ast.proofs.descs.+push_right.Given as goal

abbrev pub invariant-push_right_ins-loop-input : goal.invariant-push_right_ins-loop-input
invariant-push_right_ins-loop-input l = l.out ≡ l.initial.out ++ flat_map (λ x. right_descs (seen_right_in x)) (take l.input-index l.inputs)
