use Rattle.rule_ast.proofs.DescLaws.{nodes_pushed}
use Rattle.rule_ast.proofs.descs.+push_nodes.Goals as goal

pub push_nodes-returns : goal.push_nodes-returns
push_nodes-returns t c = nodes_pushed c.args.left.now c.as_slice.result.now c.args.out.now c.push.new.out c.push_nodes_of.new.out c.as_slice.ensures c.in_ok-push.ensures c.in_ok-push_nodes_of.ensures
