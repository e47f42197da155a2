use Rattle.std.proofs.Common.{arith}
use Rattle.memo.specs.Reach.{AreNear}
use Rattle.memo.proofs.KeepLaws.{forest_grew}
use Rattle.memo.proofs.GrewLaws.{grew_trans, grew_same}
use Rattle.memo.proofs.ReachLaws.{near_at, same_length, leads_none, leads_more, leads_all}
use Rattle.memo.proofs.reach.swap_all.Goals as goal

pub loop-at-init : goal.loop-at-init
loop-at-init g c = record { grew = grew_same c.args.log.now; leads = leads_none c.args.log.now c.args.first c.args.from.now }

pub swap_one-requires-clause-forest : goal.swap_one-requires-clause-forest
swap_one-requires-clause-forest g c = forest_grew c.args.log.now c.loop-at.log c.args.exprs.now c.args.known.now c.loop-at.invariant.grew c.requires.forest

pub swap_one-requires-clause-near : goal.swap_one-requires-clause-near
swap_one-requires-clause-near g c = near_at (AreNear c.args.exprs.now c.args.known.now) c.args.from.now c.args.to.now c.loop-at.at 0 c.requires.near (omega arith)

pub loop-at-preserved : goal.loop-at-preserved
loop-at-preserved g c =
    let long = same_length (AreNear c.args.exprs.now c.args.known.now) c.args.from.now c.args.to.now c.requires.near in record {
      grew = grew_trans c.args.log.now c.loop-at.log c.swap_one.new.log c.loop-at.invariant.grew c.swap_one.ensures.grew;
      leads = leads_more c.args.log.now c.loop-at.log c.swap_one.new.log c.args.first c.args.from.now c.args.to.now c.loop-at.at 0 c.loop-at.path c.in_ok-path.path (omega arith) (omega (arith, long)) c.swap_one.ensures.grew c.loop-at.invariant.leads c.in_ok-path.ensures.line;
    }

pub returns-clause-line : goal.returns-clause-line
returns-clause-line g c = leads_all c.args.log.now c.loop-at.log c.args.first c.loop-at.path c.loop-at.at c.args.from.now c.args.to.now (omega arith) (same_length (AreNear c.args.exprs.now c.args.known.now) c.args.from.now c.args.to.now c.requires.near) c.loop-at.invariant.leads
