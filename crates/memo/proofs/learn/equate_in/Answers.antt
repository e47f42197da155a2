use Rattle.memo.proofs.GrewLaws.{grew_trans}
use Rattle.memo.proofs.KeepLaws.{forest_grew}
use Rattle.memo.proofs.LearnLaws.{homed}
use Rattle.memo.proofs.learn.equate_in.Goals as goal

pub are_near-requires : goal.are_near-requires
are_near-requires g c = homed c.learn-2.new.log.terms c.learn-2.new.log.lines c.args.exprs.now c.learn-2.new.known.items c.in_ok-learn-2.ensures.forest

pub returns-then-are_near-clause-grew : goal.returns-then-are_near-clause-grew
returns-then-are_near-clause-grew g c =
    grew_trans c.args.log.now c.learn-2.new.log c.across.new.log
    (grew_trans c.args.log.now c.learn.new.log c.learn-2.new.log c.in_ok-learn.ensures.grew c.in_ok-learn-2.ensures.grew) c.in_ok-line.ensures.grew

pub returns-then-are_near-clause-forest : goal.returns-then-are_near-clause-forest
returns-then-are_near-clause-forest g c = forest_grew c.learn-2.new.log c.across.new.log c.args.exprs.now c.learn-2.new.known.items c.in_ok-line.ensures.grew c.in_ok-learn-2.ensures.forest
