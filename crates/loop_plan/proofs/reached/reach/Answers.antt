use Rattle.std.proofs.Common.{◌≡◌, ◌<◌, List, length, Some, slice_get, slice_index_or, ap, subst, ◌∙◌, arith}
use Rattle.loop_plan.specs.declared.way.Way.{Way}
use Rattle.loop_plan.proofs.ListLaws.{get_at, get_contains}
use Rattle.loop_plan.proofs.ReachedLaws.{reached_more, grown_long}
use Rattle.loop_plan.proofs.reached.reach.Goals as goal

pub loop-next-preserved : goal.loop-next-preserved
loop-next-preserved g c =
    let m = g.C.Choices.graph c.loop-next.choices in let m' = g.C.Choices.graph c.meet_inputs.new.choices in
    let r = c.loop-next.reached in let s = c.meet_inputs.new.reached in let next = c.loop-next.next in let inv = c.loop-next.invariant in
    let none : Way = record { goal = 0; k = 0 } in
    let ways = c.as_slice.result.now in let w = slice_index_or ways next none in
    let few : next < length r.ways = omega (arith, c.loop-next-test.true, c.len.ensures) in
    let at = subst (λ (ws : List Way). slice_get ws next ≡ Some w) c.as_slice.ensures (get_at ways next none (omega (arith, few, ap (λ (ws : List Way). length ws) c.as_slice.ensures))) in
    let ext = g.met.C.Choices.grows c.loop-next.choices c.meet_inputs.new.choices c.meet_inputs.ensures.later in
    let grows = c.in_ok-meet_inputs.ensures.grows in record {
      later = g.met.C.Choices.chain c.args.choices.now c.loop-next.choices c.meet_inputs.new.choices inv.later c.meet_inputs.ensures.later;
      few = omega (arith, few, grown_long r s grows);
      reached = reached_more m m' ext r s next w grows at (inv.reached.ways w (get_contains r.ways next w at)).0 c.in_ok-meet_inputs.ensures.met (c.in_ok-meet_inputs.ensures.reached next inv.few inv.reached);
      root = grows.root ∙ inv.root;
      met = grows.met c.args.root inv.met;
    }
