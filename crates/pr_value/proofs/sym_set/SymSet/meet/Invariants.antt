use Rattle.std.proofs.Common.{◌≡◌, take}
use Rattle.pr_value.specs.SymbolSets.{meet}
use Rattle.pr_value.proofs.sym_set.SymSet.meet.Given as goal

abbrev pub invariant-loop-member : goal.invariant-loop-member
invariant-loop-member l = l.members.items ≡ meet (take l.member-index l.member-items) l.other
