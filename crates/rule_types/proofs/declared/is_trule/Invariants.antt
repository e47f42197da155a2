use Rattle.std.proofs.Common.{◌≡◌, drop, map}
use Rattle.pr_value.specs.SymbolSets.{contains}
use Rattle.rule_ast.specs.Seen.{seen_trule}
use Rattle.rule_types.specs.Conditions.{trule_names}
use Rattle.rule_types.proofs.declared.is_trule.Given as goal

-- the rest decides
abbrev pub invariant-loop-known : goal.invariant-loop-known
invariant-loop-known l =
    contains (trule_names (map seen_trule (drop l.known-index l.trules))) l.name
    ≡ contains (trule_names (map seen_trule l.trules)) l.name
