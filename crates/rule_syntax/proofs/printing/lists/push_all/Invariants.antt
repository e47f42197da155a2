use Rattle.std.proofs.Common.{◌≡◌, ◌++◌, flat_map, take}
use Rattle.rule_syntax.proofs.printing.lists.push_all.Given as goal

abbrev pub invariant-loop-part : goal.invariant-loop-part
invariant-loop-part g l = l.tokens ≡ l.initial.tokens ++ flat_map g.P.Printed.spelling (take l.part-index l.parts)
