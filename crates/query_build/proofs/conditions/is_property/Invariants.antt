use Rattle.std.proofs.Common.{◌≡◌, drop}
use Rattle.pr_value.specs.SymbolSets.{contains}
use Rattle.rule_types.specs.Conditions.{property_names}
use Rattle.query_build.proofs.conditions.is_property.Given as goal

-- the rest decides
abbrev pub invariant-loop-known : goal.invariant-loop-known
invariant-loop-known l =
    contains (property_names (drop l.known-index l.properties)) l.name
    ≡ contains (property_names l.properties) l.name
