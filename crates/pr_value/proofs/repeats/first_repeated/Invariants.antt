use Rattle.std.proofs.Common.{take}
use Rattle.pr_value.proofs.RepeatLaws.{Passed}
use Rattle.pr_value.proofs.repeats.first_repeated.Given as goal

abbrev pub invariant-loop-i : goal.invariant-loop-i
invariant-loop-i l = Passed l.earlier (take l.i l.symbols)
