use Rattle.std.proofs.Common.{◌≡◌, take}
use Rattle.pr_value.specs.SymbolSets.{minus}
use Rattle.pr_value.proofs.sym_set.SymSet.minus.Given as goal

abbrev pub invariant-loop-member : goal.invariant-loop-member
invariant-loop-member l = l.members.items ≡ minus (take l.member-index l.member-items) l.other
