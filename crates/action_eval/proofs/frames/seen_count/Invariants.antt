use Rattle.std.proofs.Common.{◌≡◌, ◌≤◌, map, reverse, take, length}
use Rattle.action_eval.specs.Machine.{World, helpers_in}
use Rattle.action_eval.specs.SeenMachine.{seen_frame}
use Rattle.action_eval.proofs.frames.seen_count.Given as goal

-- the frames that are left see the same
abbrev pub invariant-loop-left : goal.invariant-loop-left
invariant-loop-left l = record {
  within : l.left ≤ length l.frames;
  same : (w : World) → helpers_in w (map seen_frame (reverse (take l.left l.frames))) ≡ helpers_in w (map seen_frame (reverse l.frames));
}

abbrev pub decreases-loop-left : goal.decreases-loop-left
decreases-loop-left l = l.left
