use Rattle.memo.proofs.GrewLaws.{grew_trans}
use Rattle.memo.proofs.learn.+learn.Goals as goal

pub learn-returns-clause-grew : goal.learn-returns-clause-grew
learn-returns-clause-grew g t c = grew_trans c.args.log.now c.learn_all.new.log c.learn_over.new.log c.in_ok-learn_all.ensures.grew c.in_ok-learn_over.ensures.grew

pub learn_all-loop-n-preserved : goal.learn_all-loop-n-preserved
learn_all-loop-n-preserved g t c = record {
  grew = grew_trans c.args.log.now c.loop-n.log c.learn.new.log c.loop-n.invariant.grew c.in_ok-learn.ensures.grew;
  forest = c.in_ok-learn.ensures.forest;
}
