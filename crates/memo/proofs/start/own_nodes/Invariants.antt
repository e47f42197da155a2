use Rattle.memo.specs.Grew.{Grew}
use Rattle.memo.specs.Start.{AreOwnLines, IsOwning}
use Rattle.memo.proofs.start.own_nodes.Given as goal

abbrev pub invariant-loop-k : goal.invariant-loop-k
invariant-loop-k g l = record {
  grew : Grew l.fn.log l.log;
  lines : AreOwnLines l.log.lines l.own;
  owning : IsOwning l.fn.log.terms l.fn.log.query l.own l.k;
}
