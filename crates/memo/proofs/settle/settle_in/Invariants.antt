use Rattle.memo.specs.Grew.{Grew}
use Rattle.memo.specs.Memos.{MemoValue}
use Rattle.memo.specs.Settle.{IsTurning, IsMerging}
use Rattle.memo.proofs.settle.settle_in.Given as goal

abbrev pub invariant-loop : goal.invariant-loop
invariant-loop g l = record {
  grew : Grew l.fn.log l.log;
  turning : IsTurning l.log.terms l.log.lines l.exprs l.known l.index.entries l.joins.items;
  merging : (memo : MemoValue g.row.L.Denot g.row.S.Denot) → IsMerging memo l.fn.exprs l.fn.joins.items → IsMerging memo l.exprs l.joins.items;
}
