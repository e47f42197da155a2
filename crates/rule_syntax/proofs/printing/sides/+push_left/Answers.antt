use Rattle.std.proofs.Common.{arith}
use Rattle.rule_ast.specs.Seen.{seen_left_in}
use Rattle.rule_syntax.specs.Tokens.{left_tokens}
use Rattle.rule_syntax.proofs.PrintLaws.{commas_step, left_pieces}
use Rattle.rule_syntax.proofs.printing.sides.+push_left.Goals as goal

pub push_left-returns : goal.push_left-returns
push_left-returns t c =
    left_pieces c.args.left.now c.as_slice.result.now c.args.tokens.now c.open_call.new.tokens c.push_left_ins.new.tokens c.close_side.new.tokens c.as_slice.ensures c.in_ok-open_call.ensures c.in_ok-push_left_ins.ensures
    c.in_ok-close_side.ensures

pub push_left_ins-loop-i-preserved : goal.push_left_ins-loop-i-preserved
push_left_ins-loop-i-preserved t c =
    commas_step (λ x. left_tokens (seen_left_in x)) c.args.inputs.now c.loop-i.i c.index-inputs-i.result c.args.tokens.now c.loop-i.tokens c.push_comma.new.tokens c.push_left_in.new.tokens (omega arith) c.index-inputs-i.is c.loop-i.invariant c.in_ok-push_comma.ensures
    c.in_ok-push_left_in.ensures
