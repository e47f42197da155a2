use Rattle.memo.specs.Grew.{Grew}
use Rattle.memo.specs.Reach.{Leads, mixed}
use Rattle.memo.proofs.reach.swap_all.Given as goal

abbrev pub invariant-loop-at : goal.invariant-loop-at
invariant-loop-at g l = record { grew : Grew l.fn.log l.log; leads : Leads l.fn.log l.log l.first l.from (mixed l.at l.to l.from) l.path }
