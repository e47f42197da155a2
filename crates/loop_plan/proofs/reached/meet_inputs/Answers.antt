use Rattle.std.proofs.Common.{◌≡◌, ◌+◌, ◌<◌, Some, slice_get, subst, arith}
use Rattle.pr_value.specs.Capped.{cap}
use Rattle.best_plan.proofs.BoundLaws.{all_at}
use Rattle.loop_plan.specs.Reached.{bound, inputs}
use Rattle.loop_plan.proofs.ReachedLaws.{grows_on, grown_long, inputs_on, still_listed, input_led}
use Rattle.loop_plan.proofs.UsesLaws.{inputs_more, inputs_all}
use Rattle.loop_plan.proofs.reached.meet_inputs.Goals as goal

pub input_count-i-end-requires : goal.input_count-i-end-requires
input_count-i-end-requires g c = record { alternative = (c.requires.reached.ways c.args.way c.requires.listed).0 }

pub meet-requires-clause-there : goal.meet-requires-clause-there
meet-requires-clause-there g c =
    let n = c.loop-i.choices in let m = g.C.Choices.graph n in let r = c.loop-i.reached in
    let is = c.loop-i.invariant.reached 0 (omega arith) c.requires.reached in
    let listed = still_listed c.args.reached.now r c.loop-i.invariant.grows c.args.way c.requires.listed in
    all_at (λ h. h < m.goals) (inputs m c.args.way) c.loop-i.i c.input-input.result ((g.met.C.Choices.lawful n).inputs_there c.args.way.goal c.args.way.k (is.ways c.args.way listed).0) c.input-input.ensures

pub meet-requires-clause-leads : goal.meet-requires-clause-leads
meet-requires-clause-leads g c =
    let n = c.loop-i.choices in let m = g.C.Choices.graph n in let r = c.loop-i.reached in
    let is = c.loop-i.invariant.reached 0 (omega arith) c.requires.reached in
    let listed = still_listed c.args.reached.now r c.loop-i.invariant.grows c.args.way c.requires.listed in
    input_led m r 0 is c.args.way listed c.loop-i.i c.input-input.result c.input-input.ensures

pub loop-i-preserved : goal.loop-i-preserved
loop-i-preserved g c =
    let m = c.args.choices.now in let n = c.loop-i.choices in let o = c.meet.new.choices in
    let r = c.args.reached.now in let s = c.loop-i.reached in let t = c.meet.new.reached in
    let inv = c.loop-i.invariant in let w = c.args.way in
    let ext = g.met.C.Choices.grows m n inv.later in
    let same = inputs_on (g.C.Choices.graph m) (g.C.Choices.graph n) ext w (c.requires.reached.ways w c.requires.listed).0 in
    record {
      later = g.met.C.Choices.chain m n o inv.later c.meet.ensures.later;
      reached = λ k few is. c.in_ok-meet.ensures.reached k (omega (arith, few, grown_long r s inv.grows)) (inv.reached k few is);
      grows = grows_on r s t inv.grows c.in_ok-meet.ensures.grows;
      met = inputs_more (λ h. bound t h ≡ cap + 1) (inputs (g.C.Choices.graph m) w) c.loop-i.i c.input-input.result (subst (λ hs. slice_get hs c.loop-i.i ≡ Some c.input-input.result) same c.input-input.ensures) c.in_ok-meet.ensures.met
          (λ j h l e. c.in_ok-meet.ensures.grows.met h (inv.met j h l e));
    }

pub returns-clause-met : goal.returns-clause-met
returns-clause-met g c =
    let m = g.C.Choices.graph c.args.choices.now in
    inputs_all (λ h. bound c.loop-i.reached h ≡ cap + 1) (inputs m c.args.way) c.loop-i.i (omega (arith, c.input_count-i-end.ensures, c.loop-i-test.false)) c.loop-i.invariant.met
