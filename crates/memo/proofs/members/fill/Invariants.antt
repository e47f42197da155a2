use Rattle.std.proofs.Common.{length, take}
use Rattle.memo.specs.Members.{AreMembers}
use Rattle.memo.proofs.members.fill.Given as goal

abbrev pub invariant-loop-i : goal.invariant-loop-i
invariant-loop-i g l = AreMembers l.rows (length l.exprs) (take l.i l.exprs)
