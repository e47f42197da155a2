use Rattle.std.proofs.Common.{◌≡◌, drop, map}
use Rattle.std.specs.List.{list_any}
use Rattle.rule_ast.specs.Roles.{operator_reads}
use Rattle.rule_ast.specs.Seen.{seen_operator}
use Rattle.property_classes.proofs.reading.some_operator_reads.Given as goal

-- the rest decides
abbrev pub invariant-loop-operator : goal.invariant-loop-operator
invariant-loop-operator l =
    list_any (operator_reads l.property) (map seen_operator (drop l.operator-index l.operators))
    ≡ list_any (operator_reads l.property) (map seen_operator l.operators)
