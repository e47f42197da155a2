use Rattle.std.proofs.Common.{◌≡◌, ◌++◌, map, take}
use Rattle.rule_syntax.specs.Tokens.{commas}
use Rattle.rule_syntax.proofs.printing.lists.push_listed.Given as goal

abbrev pub invariant-loop-i : goal.invariant-loop-i
invariant-loop-i g l = l.tokens ≡ l.initial.tokens ++ commas (map g.P.Printed.spelling (take l.i l.parts))
