use Rattle.std.proofs.Common.{◌≡◌, ◌≤◌, map, reverse, take, length}
use Rattle.action_eval.specs.Machine.{is_in_body}
use Rattle.action_eval.specs.SeenMachine.{seen_frame}
use Rattle.action_eval.proofs.frames.is_in_body.Given as goal

-- there is a body among the frames that are left, or in none
abbrev pub invariant-loop-left : goal.invariant-loop-left
invariant-loop-left l = record {
  within : l.left ≤ length l.frames;
  same : is_in_body (map seen_frame (reverse (take l.left l.frames))) ≡ is_in_body (map seen_frame (reverse l.frames));
}

abbrev pub decreases-loop-left : goal.decreases-loop-left
decreases-loop-left l = l.left
