use Rattle.memo.specs.Grew.{Grew}
use Rattle.memo.specs.Union.{IsUpTo}
use Rattle.memo.proofs.union.root_of.Given as goal

abbrev pub invariant-loop-at : goal.invariant-loop-at
invariant-loop-at g l = record { grew : Grew l.fn.log l.log; up : IsUpTo l.log.lines l.ups l.i l.at l.line }

abbrev pub decreases-loop-at : goal.decreases-loop-at
decreases-loop-at g l = l.at
