use Rattle.std.proofs.Common.{◌≡◌, ◌++◌, take}
use Rattle.pr_value.specs.TokenTexts.{spaced}
use Rattle.rule_syntax.proofs.printing.spaced.push_spaced.Given as goal

abbrev pub invariant-loop-i : goal.invariant-loop-i
invariant-loop-i l = l.out ≡ l.initial.out ++ spaced (take l.i l.tokens)
