use Rattle.std.proofs.Common.{[]}
use Rattle.memo.specs.Grew.{Grew}
use Rattle.memo.specs.Kept.{IsMemo}
use Rattle.memo.specs.Start.{IsStarted}
use Rattle.memo.proofs.start.add_nodes.Given as goal

abbrev pub invariant-loop-n : goal.invariant-loop-n
invariant-loop-n g l = record {
  grew : Grew l.fn.log l.log;
  kept : IsMemo l.log.terms l.log.lines l.exprs.items l.known.items l.index.entries [];
  started : IsStarted l.own l.exprs.items l.n;
}
