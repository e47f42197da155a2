use Rattle.std.proofs.Common.{◌≡◌, drop, map}
use Rattle.pr_value.specs.SymbolSets.{contains}
use Rattle.rule_ast.specs.Seen.{seen_irule}
use Rattle.rule_types.specs.Conditions.{irule_names}
use Rattle.rule_types.proofs.declared.is_irule.Given as goal

-- the rest decides
abbrev pub invariant-loop-known : goal.invariant-loop-known
invariant-loop-known l =
    contains (irule_names (map seen_irule (drop l.known-index l.irules))) l.name
    ≡ contains (irule_names (map seen_irule l.irules)) l.name
