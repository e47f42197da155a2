use Rattle.std.proofs.Common.{◌≡◌, ◌++◌, take}
use Rattle.rule_types.specs.Declarations.{descs_of, param_names}
use Rattle.rule_types.specs.SeenDeclarations.{seen_declaration}
use Rattle.rule_types.proofs.scope_names.scope_names.Given as goal

abbrev pub invariant-loop-param : goal.invariant-loop-param
invariant-loop-param l =
    l.names ≡ descs_of (seen_declaration l.d) ++ param_names (take l.param-index l.params)
