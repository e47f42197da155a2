use Rattle.memo.proofs.KeepLaws.{forest_grew}
use Rattle.memo.proofs.ReachLaws.{across_ok}
use Rattle.memo.proofs.GrewLaws.{grew_trans}
use Rattle.memo.proofs.reach.across.Goals as goal

pub home_of-requires-2 : goal.home_of-requires-2
home_of-requires-2 g c = forest_grew c.args.log.now c.home_of.new.log c.args.exprs.now c.args.known.now c.home_of.ensures.grew c.requires.forest

pub returns-clause-line : goal.returns-clause-line
returns-clause-line g c =
    across_ok c.home_of.new.log c.home_of-2.new.log c.turn.new.log c.chain.new.log c.args.exprs.now c.args.known.now c.args.m c.args.n c.in_ok-down.down c.in_ok-up.up c.in_ok-back.back c.chain.result
    c.requires.near c.home_of-2.ensures.grew c.turn.ensures.grew c.in_ok-down.ensures.line c.in_ok-up.ensures.line c.in_ok-back.ensures.line c.chain.ensures.line

pub returns-in_err-up-clause-grew : goal.returns-in_err-up-clause-grew
returns-in_err-up-clause-grew g c = grew_trans c.args.log.now c.home_of.new.log c.home_of-2.new.log c.home_of.ensures.grew c.home_of-2.ensures.grew

pub returns-in_err-back-clause-grew : goal.returns-in_err-back-clause-grew
returns-in_err-back-clause-grew g c =
    grew_trans c.args.log.now c.home_of-2.new.log c.turn.new.log (grew_trans c.args.log.now c.home_of.new.log c.home_of-2.new.log c.home_of.ensures.grew c.home_of-2.ensures.grew) c.turn.ensures.grew

pub returns-clause-grew : goal.returns-clause-grew
returns-clause-grew g c =
    grew_trans c.args.log.now c.turn.new.log c.chain.new.log
    (grew_trans c.args.log.now c.home_of-2.new.log c.turn.new.log (grew_trans c.args.log.now c.home_of.new.log c.home_of-2.new.log c.home_of.ensures.grew c.home_of-2.ensures.grew) c.turn.ensures.grew)
    c.chain.ensures.grew
