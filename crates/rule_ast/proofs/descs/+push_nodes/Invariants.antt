use Rattle.std.proofs.Common.{◌≡◌, ◌++◌, flat_map, take}
use Rattle.rule_ast.specs.Seen.{seen_left_in}
use Rattle.rule_ast.specs.Descs.{node_descs}
use Rattle.rule_ast.proofs.descs.+push_nodes.Given as goal

abbrev pub invariant-push_nodes_of-loop-input : goal.invariant-push_nodes_of-loop-input
invariant-push_nodes_of-loop-input l = l.out ≡ l.initial.out ++ flat_map (λ x. node_descs (seen_left_in x)) (take l.input-index l.inputs)
