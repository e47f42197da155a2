use Rattle.std.proofs.Common.{arith}
use Rattle.action_eval.proofs.FoldLaws.{total-fewer}
use Rattle.action_eval.proofs.folds.total.Goals as goal

pub loop-left-preserved : goal.loop-left-preserved
loop-left-preserved c =
    record {
      within = omega (arith, c.loop-left.invariant.within);
      whole =
          total-fewer c.args.values.now c.loop-left.left c.index-values-left.result c.get-value.result.now c.number_in.result c.loop-left.sum c.cap_add-sum.result _ (omega (arith, c.loop-left-test.true)) c.loop-left.invariant.within
          c.index-values-left.is c.get-value.ensures c.number_in.ensures c.cap_add-sum.ensures.value c.loop-left.invariant.whole;
    }
