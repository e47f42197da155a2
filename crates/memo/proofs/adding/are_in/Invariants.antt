use Rattle.std.proofs.Common.{take}
use Rattle.std.specs.List.{AllZip}
use Rattle.memo.specs.Forest.{IsKnownIn}
use Rattle.memo.proofs.adding.are_in.Given as goal

abbrev pub invariant-loop-i : goal.invariant-loop-i
invariant-loop-i g l = AllZip (IsKnownIn l.exprs l.known) (take l.i l.terms) (take l.i l.classes)
