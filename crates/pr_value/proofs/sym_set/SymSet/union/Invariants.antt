use Rattle.std.proofs.Common.{◌≡◌, ◌++◌, take}
use Rattle.pr_value.proofs.sym_set.SymSet.union.Given as goal

abbrev pub invariant-loop-member : goal.invariant-loop-member
invariant-loop-member l = l.all.items ≡ l.self ++ take l.member-index l.member-items
