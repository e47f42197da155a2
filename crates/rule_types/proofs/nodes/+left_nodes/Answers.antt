use Rattle.std.proofs.Common.{◌-◌, ◌^◌, ◌∙◌}
use Rattle.rule_ast.specs.Seen.{seen_left_in}
use Rattle.rule_types.specs.Uses.{counts_left}
use Rattle.rule_types.proofs.NodeLaws.{nodes_of-more}
use Rattle.rule_types.proofs.SideLaws.{left_counted}
use Rattle.rule_types.proofs.nodes.+left_nodes.Goals as goal

pub left_nodes-returns : goal.left_nodes-returns
left_nodes-returns t c =
    left_counted c.args.left.now c.as_slice.result.now c.nodes_of_left_ins.result c.saturating_add.result (2 ^ 64 - 1)
    c.as_slice.ensures c.nodes_of_left_ins.ensures c.saturating_add.ensures

pub nodes_of_left_ins-loop-input-preserved : goal.nodes_of_left_ins-loop-input-preserved
nodes_of_left_ins-loop-input-preserved t c =
    c.saturating_add-count.ensures
    ∙ nodes_of-more counts_left seen_left_in c.args.inputs.now c.loop-input.input-index c.input-item.result c.loop-input.count c.nodes_of_left_in.result (2 ^ 64 - 1)
    c.loop-input-test.true c.input-item.is c.loop-input.invariant c.nodes_of_left_in.ensures
