use Rattle.std.proofs.Common.{refl}
use Rattle.prairie_tests.proofs.AgainLaws.{begin_more}
use Rattle.prairie_tests.proofs.again.lines_begin.Goals as goal

pub loop-i-preserved : goal.loop-i-preserved
loop-i-preserved c = record {
  fits = c.loop-i.invariant.fits;
  same = begin_more c.args.log.now.lines c.args.first.now.lines c.loop-i.i c.line-in-loop-i.result.now c.line.result.now c.line.ensures c.line-in-loop-i.ensures (c.if-not-is_line.ensures refl) c.loop-i.invariant.same;
}
