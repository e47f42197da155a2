use Rattle.std.proofs.Common.{◌+◌, get_or, refl, arith}
use Rattle.pr_value.specs.Capped.{cap}
use Rattle.pr_value.specs.Symbols.{is_digit}
use Rattle.rule_lex.proofs.NumberLaws.{value_step, digits_step}
use Rattle.rule_lex.proofs.runs.capped_value.Goals as goal

pub loop-b-preserved : goal.loop-b-preserved
loop-b-preserved c = record {
  capped = omega (arith, c.min-value.ensures);
  digits = (digits_step is_digit c.args.digits.now c.loop-b.b-index c.loop-b-test.true c.loop-b.invariant.digits).1;
  same = value_step c.args.digits.now c.loop-b.b-index c.loop-b.value c.min-value.result (get_or c.args.digits.now c.loop-b.b-index 0) (cap + 1) _ c.loop-b-test.true refl (omega (arith, c.min-value.ensures, c.from.ensures)) c.loop-b.invariant.same;
}
