use Rattle.std.proofs.Common.{◌-◌, ◌^◌, ◌∙◌}
use Rattle.rule_ast.specs.Seen.{seen_right_in}
use Rattle.rule_types.specs.Uses.{counts_right}
use Rattle.rule_types.proofs.NodeLaws.{nodes_of-more}
use Rattle.rule_types.proofs.SideLaws.{right_counted}
use Rattle.rule_types.proofs.nodes.+right_nodes.Goals as goal

pub right_nodes-returns : goal.right_nodes-returns
right_nodes-returns t c =
    right_counted c.args.right.now c.as_slice.result.now c.nodes_of_right_ins.result c.saturating_add.result (2 ^ 64 - 1)
    c.as_slice.ensures c.nodes_of_right_ins.ensures c.saturating_add.ensures

pub nodes_of_right_ins-loop-input-preserved : goal.nodes_of_right_ins-loop-input-preserved
nodes_of_right_ins-loop-input-preserved t c =
    c.saturating_add-count.ensures
    ∙ nodes_of-more counts_right seen_right_in c.args.inputs.now c.loop-input.input-index c.input-item.result c.loop-input.count c.nodes_of_right_in.result (2 ^ 64 - 1)
    c.loop-input-test.true c.input-item.is c.loop-input.invariant c.nodes_of_right_in.ensures
