use Rattle.rule_ast.proofs.DescLaws.{right_pushed}
use Rattle.rule_ast.proofs.descs.+push_right.Goals as goal

pub push_right-returns : goal.push_right-returns
push_right-returns t c = right_pushed c.args.right.now c.as_slice.result.now c.args.out.now c.push.new.out c.push_right_ins.new.out c.as_slice.ensures c.in_ok-push.ensures c.in_ok-push_right_ins.ensures
