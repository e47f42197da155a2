use Rattle.std.proofs.Common.{arith}
use Rattle.rule_syntax.proofs.PrintLaws.{commas_step}
use Rattle.rule_syntax.proofs.printing.lists.push_listed.Goals as goal

pub loop-i-preserved : goal.loop-i-preserved
loop-i-preserved g c =
    commas_step g.P.Printed.spelling c.args.parts.now c.loop-i.i c.index-parts-i.result c.args.tokens.now c.loop-i.tokens c.push_comma.new.tokens c.print.new.tokens (omega arith) c.index-parts-i.is c.loop-i.invariant c.in_ok-push_comma.ensures
    c.in_ok-print.ensures
