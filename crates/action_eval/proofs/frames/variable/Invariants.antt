use Rattle.std.proofs.Common.{◌≡◌, ◌≤◌, map, reverse, take, length}
use Rattle.action_eval.specs.Machine.{World, scope_in}
use Rattle.action_eval.specs.Meaning.{value_in}
use Rattle.action_eval.specs.SeenMachine.{seen_frame}
use Rattle.action_eval.proofs.frames.variable.Given as goal

-- the name stands for the same in the frames that are left
abbrev pub invariant-loop-left : goal.invariant-loop-left
invariant-loop-left l = record {
  within : l.left ≤ length l.frames;
  same : (w : World) → value_in (scope_in w (map seen_frame (reverse (take l.left l.frames)))).values l.name ≡ value_in (scope_in w (map seen_frame (reverse l.frames))).values l.name;
}

abbrev pub decreases-loop-left : goal.decreases-loop-left
decreases-loop-left l = l.left
