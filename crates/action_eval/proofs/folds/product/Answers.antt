use Rattle.std.proofs.Common.{arith}
use Rattle.action_eval.proofs.FoldLaws.{product-fewer}
use Rattle.action_eval.proofs.folds.product.Goals as goal

pub loop-left-preserved : goal.loop-left-preserved
loop-left-preserved c =
    record {
      within = omega (arith, c.loop-left.invariant.within);
      whole =
          product-fewer c.args.values.now c.loop-left.left c.index-values-left.result c.get-value.result.now c.number_in.result c.loop-left.product c.cap_mul-product.result _ (omega (arith, c.loop-left-test.true)) c.loop-left.invariant.within
          c.index-values-left.is c.get-value.ensures c.number_in.ensures c.cap_mul-product.ensures.value c.loop-left.invariant.whole;
    }
