use Rattle.std.proofs.Common.{◌≡◌, ◌-◌, ◌^◌, min, take, map}
use Rattle.pr_value.specs.Trees.{trees_of}
use Rattle.rule_ast.specs.Seen.{seen_right_in}
use Rattle.rule_types.specs.Uses.{nodes_of, counts_right}
use Rattle.rule_types.proofs.nodes.+right_nodes.Given as goal

-- what is counted so far
abbrev pub invariant-nodes_of_right_ins-loop-input : goal.invariant-nodes_of_right_ins-loop-input
invariant-nodes_of_right_ins-loop-input l =
    l.count ≡ min (nodes_of counts_right (trees_of (map seen_right_in (take l.input-index l.inputs)))) (2 ^ 64 - 1)
