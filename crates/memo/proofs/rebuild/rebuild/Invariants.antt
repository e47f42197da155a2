use Rattle.memo.specs.Grew.{Grew}
use Rattle.memo.specs.Forest.{IsForest}
use Rattle.memo.specs.Rebuild.{IsPass}
use Rattle.memo.proofs.rebuild.rebuild.Given as goal

abbrev pub invariant-loop-i : goal.invariant-loop-i
invariant-loop-i g l = record {
  grew : Grew l.fn.log l.log;
  forest : IsForest l.log.terms l.log.lines l.exprs l.known;
  pass : IsPass l.log.lines l.fn.exprs l.exprs l.index.entries l.joins.items l.i;
}
