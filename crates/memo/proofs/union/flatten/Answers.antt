use Rattle.memo.proofs.GrewLaws.{grew_same, grew_trans}
use Rattle.memo.proofs.UniteLaws.{flat_none, flat_grew, flat_more}
use Rattle.memo.proofs.union.flatten.Goals as goal

pub loop-i-init : goal.loop-i-init
loop-i-init g c = record { grew = grew_same c.args.log.now; flat = flat_none c.args.log.now.lines c.args.ups.now c.requires }

pub loop-i-preserved : goal.loop-i-preserved
loop-i-preserved g c = record {
  grew = grew_trans c.args.log.now c.loop-i.log c.lift.new.log c.loop-i.invariant.grew c.in_ok-lift.ensures.grew;
  flat = flat_more c.lift.new.log.lines c.args.ups.now c.loop-i.ups c.lift.new.ups c.loop-i.i (flat_grew c.loop-i.log c.lift.new.log c.args.ups.now c.loop-i.ups c.loop-i.i c.in_ok-lift.ensures.grew c.loop-i.invariant.flat) c.in_ok-lift.ensures.lifted;
}
