use Rattle.std.proofs.Common.{◌-◌, take, ◌∙◌, arith}
use Rattle.action_eval.proofs.FoldLaws.{one-fewer}
use Rattle.action_eval.proofs.FrameLaws.{helpers-passed}
use Rattle.action_eval.proofs.frames.seen_count.Goals as goal

pub loop-left-preserved : goal.loop-left-preserved
loop-left-preserved c =
    let fs = c.args.frames.now in
    let n = c.loop-left.left in
    let cut = one-fewer fs n c.index-frames-left.result (omega (arith, c.loop-left-test.true)) c.loop-left.invariant.within c.index-frames-left.is in
    record {
      within = omega (arith, c.loop-left.invariant.within);
      same = λ w. helpers-passed w (take n fs) (take (n - 1) fs) c.index-frames-left.result cut _ _ c.in-Member.is ∙ c.loop-left.invariant.same w;
    }
