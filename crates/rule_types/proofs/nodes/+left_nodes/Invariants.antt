use Rattle.std.proofs.Common.{◌≡◌, ◌-◌, ◌^◌, min, take, map}
use Rattle.pr_value.specs.Trees.{trees_of}
use Rattle.rule_ast.specs.Seen.{seen_left_in}
use Rattle.rule_types.specs.Uses.{nodes_of, counts_left}
use Rattle.rule_types.proofs.nodes.+left_nodes.Given as goal

-- what is counted so far
abbrev pub invariant-nodes_of_left_ins-loop-input : goal.invariant-nodes_of_left_ins-loop-input
invariant-nodes_of_left_ins-loop-input l =
    l.count ≡ min (nodes_of counts_left (trees_of (map seen_left_in (take l.input-index l.inputs)))) (2 ^ 64 - 1)
