use Rattle.std.proofs.Common.{ℕ, suc, zero, length, Option, Some, None}
use Rattle.k_best.specs.Showings.{shown}
use Rattle.k_best.specs.Indexes.{IsRest}
use Rattle.k_best.proofs.putting.label_of.Given as goal

-- none before the next place shows the same
abbrev pub invariant-loop-next : goal.invariant-loop-next
invariant-loop-next g l =
    IsRest (length l.lists.index.heads) (shown (g.M.Faces.face l.moves) l.lists.solutions) l.at l.next

abbrev left : Option ℕ → ℕ
left None = zero
left (Some n) = suc n

abbrev pub decreases-loop-next : goal.decreases-loop-next
decreases-loop-next g l = left l.next
