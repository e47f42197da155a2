use Rattle.std.proofs.Common.{◌-◌, sym, take, ◌∙◌, arith}
use Rattle.action_eval.proofs.FoldLaws.{one-fewer}
use Rattle.action_eval.proofs.FrameLaws.{member-passed}
use Rattle.action_eval.proofs.frames.variable.Goals as goal

pub loop-left-preserved : goal.loop-left-preserved
loop-left-preserved c =
    let fs = c.args.frames.now in
    let n = c.loop-left.left in
    let cut = one-fewer fs n c.index-frames-left.result (omega (arith, c.loop-left-test.true)) c.loop-left.invariant.within c.index-frames-left.is in
    record {
      within = omega (arith, c.loop-left.invariant.within);
      same =
          λ w.
          member-passed w (take n fs) (take (n - 1) fs) c.index-frames-left.result cut c.in-Member.own c.in-Member.member c.args.name.now c.in-Member.is (sym c.eq.ensures ∙ c.if-eq.false)
          ∙ c.loop-left.invariant.same w;
    }
