use Rattle.std.proofs.Common.{take}
use Rattle.rule_types.proofs.DistinctLaws.{Passed}
use Rattle.rule_types.proofs.conditions.streams.are_distinct.Given as goal

abbrev pub invariant-loop-number : goal.invariant-loop-number
invariant-loop-number l = Passed l.earlier (take l.number-index l.numbers)
