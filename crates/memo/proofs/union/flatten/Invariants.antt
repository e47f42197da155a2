use Rattle.memo.specs.Grew.{Grew}
use Rattle.memo.specs.Union.{IsFlattened}
use Rattle.memo.proofs.union.flatten.Given as goal

abbrev pub invariant-loop-i : goal.invariant-loop-i
invariant-loop-i g l = record { grew : Grew l.fn.log l.log; flat : IsFlattened l.log.lines l.fn.ups l.ups l.i }
