use Rattle.rule_ast.proofs.DescLaws.{streams_pushed}
use Rattle.rule_ast.proofs.descs.+push_streams.Goals as goal

pub push_streams-returns : goal.push_streams-returns
push_streams-returns t c = streams_pushed c.args.left.now c.as_slice.result.now c.args.out.now c.push_streams_of.new.out c.as_slice.ensures c.in_ok-push_streams_of.ensures
