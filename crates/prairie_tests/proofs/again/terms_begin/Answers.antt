use Rattle.std.proofs.Common.{refl}
use Rattle.prairie_tests.proofs.AgainLaws.{begin_more}
use Rattle.prairie_tests.proofs.again.terms_begin.Goals as goal

pub loop-i-preserved : goal.loop-i-preserved
loop-i-preserved c = record {
  fits = c.loop-i.invariant.fits;
  same = begin_more c.args.terms.now c.args.first.now c.loop-i.i c.term-in-loop-i.result.now c.term.result.now c.term.ensures c.term-in-loop-i.ensures (c.if-not-is_term.ensures refl) c.loop-i.invariant.same;
}
