use Rattle.action_eval.proofs.FoldLaws.{kept-taken, kept-passed}
use Rattle.action_eval.proofs.folds.kept.Goals as goal

pub loop-i-preserved : goal.loop-i-preserved
loop-i-preserved c =
    kept-taken c.args.members.now c.args.values.now c.loop-i.i c.index-members-i.result c.truth_at.result c.in_ok-copy.field-0 c.loop-i.kept.items c.push.new.self.items c.loop-i-test.true c.index-members-i.is c.truth_at.ensures c.if-not-truth_at.false
    c.in_ok-copy.ensures c.loop-i.invariant c.in_ok-push.ensures.items

pub loop-i-preserved-then-not-truth_at : goal.loop-i-preserved-then-not-truth_at
loop-i-preserved-then-not-truth_at c =
    kept-passed c.args.members.now c.args.values.now c.loop-i.i c.index-members-i.result c.truth_at.result c.loop-i.kept.items c.loop-i-test.true c.truth_at.ensures c.if-not-truth_at.true c.loop-i.invariant
