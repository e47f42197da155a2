use Rattle.std.proofs.Common.{◌≡◌, drop, map}
use Rattle.std.specs.List.{list_any}
use Rattle.rule_ast.specs.Roles.{trule_reads}
use Rattle.rule_ast.specs.Seen.{seen_trule}
use Rattle.property_classes.proofs.reading.some_trule_reads.Given as goal

-- the rest decides
abbrev pub invariant-loop-rule : goal.invariant-loop-rule
invariant-loop-rule l =
    list_any (trule_reads l.property) (map seen_trule (drop l.rule-index l.rules))
    ≡ list_any (trule_reads l.property) (map seen_trule l.rules)
