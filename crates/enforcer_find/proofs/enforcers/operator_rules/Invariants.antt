use Rattle.std.proofs.Common.{◌≡◌, map, take}
use Rattle.rule_ast.specs.Seen.{seen_irule, seen_operator}
use Rattle.enforcer_find.specs.Enforcers.{rules_of}
use Rattle.enforcer_find.proofs.enforcers.operator_rules.Given as goal

-- those of the operators so far
abbrev pub invariant-loop-operator : goal.invariant-loop-operator
invariant-loop-operator l =
    l.all ≡ map (rules_of (map seen_irule l.rules)) (map seen_operator (take l.operator-index l.operators))
