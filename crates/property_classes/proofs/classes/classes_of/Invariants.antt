use Rattle.std.proofs.Common.{◌≡◌, map, take}
use Rattle.rule_ast.specs.Roles.{class_of}
use Rattle.rule_ast.specs.SeenRules.{seen_rules}
use Rattle.property_classes.proofs.classes.classes_of.Given as goal

-- those of the properties so far
abbrev pub invariant-loop-property : goal.invariant-loop-property
invariant-loop-property l =
    l.classes ≡ map (class_of (seen_rules l.rules)) (take l.property-index l.properties)
