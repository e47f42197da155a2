use Rattle.std.proofs.Common.{◌≡◌, drop}
use Rattle.rule_ast.specs.SeenRules.{seen_rules}
use Rattle.rule_types.specs.Conditions.{first_refused}
use Rattle.rule_types.proofs.refusing.first_refused.Given as goal

-- the rest decides
abbrev pub invariant-loop-kind : goal.invariant-loop-kind
invariant-loop-kind l =
    first_refused (drop l.kind-index l.kinds) (seen_rules l.roles.rules.now)
    ≡ first_refused l.kinds (seen_rules l.roles.rules.now)
