use Rattle.memo.specs.Members.{AreNone}
use Rattle.memo.proofs.members.none_each.Given as goal

abbrev pub invariant-loop : goal.invariant-loop
invariant-loop l = AreNone l.rows.items l.counter
