use Rattle.std.proofs.Common.{arith}
use Rattle.rule_syntax.proofs.PrintLaws.{spaced_step}
use Rattle.rule_syntax.proofs.printing.spaced.push_spaced.Goals as goal

pub loop-i-preserved : goal.loop-i-preserved
loop-i-preserved c =
    spaced_step c.args.tokens.now c.loop-i.i c.index-tokens-i.result c.args.out.now c.loop-i.out c.push_blank.new.out c.push_token.new.out (omega arith) c.index-tokens-i.is c.loop-i.invariant c.in_ok-push_blank.ensures
    c.in_ok-push_token.ensures.ok
