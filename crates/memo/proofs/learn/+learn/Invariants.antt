use Rattle.std.proofs.Common.{◌+◌, ◌*◌}
use Rattle.memo.specs.Grew.{Grew}
use Rattle.memo.specs.Forest.{IsForest}
use Rattle.memo.proofs.learn.+learn.Given as goal

abbrev pub decreases-learn : goal.decreases-learn
decreases-learn g l = 2 * l.n + 1

abbrev pub decreases-learn_all : goal.decreases-learn_all
decreases-learn_all g l = 2 * l.below

abbrev pub invariant-learn_all-loop-n : goal.invariant-learn_all-loop-n
invariant-learn_all-loop-n g l = record {
  grew : Grew l.fn.log l.log;
  forest : IsForest l.log.terms l.log.lines l.exprs l.known.items;
}
