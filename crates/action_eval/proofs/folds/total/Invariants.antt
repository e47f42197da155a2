use Rattle.std.proofs.Common.{◌≡◌, ◌≤◌, length, take}
use Rattle.action_eval.specs.Folds.{total_of}
use Rattle.action_eval.proofs.folds.total.Given as goal

-- the sum so far is that of what stands behind
abbrev pub invariant-loop-left : goal.invariant-loop-left
invariant-loop-left l = record {
  within : l.left ≤ length l.values;
  whole : total_of (take l.left l.values) l.sum ≡ total_of l.values 0;
}

abbrev pub decreases-loop-left : goal.decreases-loop-left
decreases-loop-left l = l.left
