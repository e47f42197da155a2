use Rattle.std.proofs.Common.{◌≡◌, drop, map}
use Rattle.std.specs.List.{list_any}
use Rattle.rule_ast.specs.Roles.{irule_reads}
use Rattle.rule_ast.specs.Seen.{seen_irule}
use Rattle.property_classes.proofs.reading.some_irule_reads.Given as goal

-- the rest decides
abbrev pub invariant-loop-rule : goal.invariant-loop-rule
invariant-loop-rule l =
    list_any (irule_reads l.property) (map seen_irule (drop l.rule-index l.rules))
    ≡ list_any (irule_reads l.property) (map seen_irule l.rules)
