use Rattle.std.proofs.Common.{arith}
use Rattle.plan_form.proofs.TextLaws.{shown_all, shown_more}
use Rattle.plan_form.proofs.text.push_all_shown.Goals as goal

pub loop-place-preserved : goal.loop-place-preserved
loop-place-preserved c =
    shown_more c.args.properties.now c.args.desc.now c.loop-place.place c.index-properties-place.result c.get.result.now c.args.out.now c.loop-place.out c.push_shown.new.out
    (omega (arith, c.loop-place-test.true, c.min-places.ensures)) c.index-properties-place.is c.get.ensures c.loop-place.invariant c.in_ok-push_shown.ensures

pub returns : goal.returns
returns c =
    shown_all c.args.properties.now c.args.desc.now c.loop-place.place c.args.out.now c.loop-place.out
    (omega (arith, c.loop-place-test.false, c.min-places.ensures, c.count.ensures)) c.loop-place.invariant
