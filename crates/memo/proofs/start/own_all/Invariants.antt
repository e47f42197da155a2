use Rattle.memo.specs.Grew.{Grew}
use Rattle.memo.specs.Start.{AreOwnLines, OwnsFirst}
use Rattle.memo.proofs.start.own_all.Given as goal

abbrev pub invariant-loop-at : goal.invariant-loop-at
invariant-loop-at g l = record {
  grew : Grew l.fn.log l.log;
  lines : AreOwnLines l.log.lines l.own;
  owned : OwnsFirst l.fn.own l.own l.inputs l.at;
}
