use Rattle.std.proofs.Common.{arith}
use Rattle.rule_ast.specs.Seen.{seen_right_in}
use Rattle.rule_syntax.specs.Tokens.{right_tokens}
use Rattle.rule_syntax.proofs.PrintLaws.{commas_step, right_pieces}
use Rattle.rule_syntax.proofs.printing.sides.+push_right.Goals as goal

pub push_right-returns : goal.push_right-returns
push_right-returns t c =
    right_pieces c.args.right.now c.as_slice.result.now c.args.tokens.now c.open_call.new.tokens c.push_right_ins.new.tokens c.close_side.new.tokens c.as_slice.ensures c.in_ok-open_call.ensures c.in_ok-push_right_ins.ensures
    c.in_ok-close_side.ensures

pub push_right_ins-loop-i-preserved : goal.push_right_ins-loop-i-preserved
push_right_ins-loop-i-preserved t c =
    commas_step (λ x. right_tokens (seen_right_in x)) c.args.inputs.now c.loop-i.i c.index-inputs-i.result c.args.tokens.now c.loop-i.tokens c.push_comma.new.tokens c.push_right_in.new.tokens (omega arith) c.index-inputs-i.is c.loop-i.invariant c.in_ok-push_comma.ensures
    c.in_ok-push_right_in.ensures
