use Rattle.memo.specs.Grew.{Grew}
use Rattle.memo.specs.Union.{IsUniting}
use Rattle.memo.proofs.union.unite.Given as goal

abbrev pub invariant-loop-join : goal.invariant-loop-join
invariant-loop-join g l = record { grew : Grew l.fn.log l.log; uniting : IsUniting l.log.lines l.joins l.fn.ups l.ups l.join-index }
