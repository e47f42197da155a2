use Rattle.std.proofs.Common.{◌≡◌, drop, map}
use Rattle.std.specs.List.{find}
use Rattle.std.specs.Option.{option_map}
use Rattle.rule_ast.specs.SeenRules.{seen_rules}
use Rattle.rule_types.specs.Conditions.{holds}
use Rattle.rule_types.specs.Declarations.{declared_name}
use Rattle.rule_types.specs.SeenDeclarations.{seen_declaration}
use Rattle.rule_types.proofs.holds.first_name.Given as goal

-- the rest decides
abbrev pub invariant-loop-d : goal.invariant-loop-d
invariant-loop-d l =
    let test = holds l.kind (seen_rules l.roles.rules.now) in
    option_map declared_name (find test (map seen_declaration (drop l.d-index l.all)))
    ≡ option_map declared_name (find test (map seen_declaration l.all))
