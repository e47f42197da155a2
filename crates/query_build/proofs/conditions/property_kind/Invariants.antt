use Rattle.std.proofs.Common.{◌≡◌, drop}
use Rattle.rule_ast.specs.Typing.{property_kind}
use Rattle.query_build.proofs.conditions.property_kind.Given as goal

-- the rest decides
abbrev pub invariant-loop-property : goal.invariant-loop-property
invariant-loop-property l =
    property_kind (drop l.property-index l.properties) l.name ≡ property_kind l.properties l.name
