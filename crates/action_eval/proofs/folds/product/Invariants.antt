use Rattle.std.proofs.Common.{◌≡◌, ◌≤◌, length, take}
use Rattle.action_eval.specs.Folds.{product_of}
use Rattle.action_eval.proofs.folds.product.Given as goal

-- the product so far is that of what stands behind
abbrev pub invariant-loop-left : goal.invariant-loop-left
invariant-loop-left l = record {
  within : l.left ≤ length l.values;
  whole : product_of (take l.left l.values) l.product ≡ product_of l.values 1;
}

abbrev pub decreases-loop-left : goal.decreases-loop-left
decreases-loop-left l = l.left
