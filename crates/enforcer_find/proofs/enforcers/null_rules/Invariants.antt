use Rattle.std.proofs.Common.{◌≡◌, map, take}
use Rattle.rule_ast.specs.Seen.{seen_irule}
use Rattle.rule_ast.specs.Roles.{leads_to_null}
use Rattle.enforcer_find.specs.Enforcers.{places}
use Rattle.enforcer_find.proofs.enforcers.null_rules.Given as goal

-- those of the rules so far
abbrev pub invariant-loop-place : goal.invariant-loop-place
invariant-loop-place l =
    l.places ≡ places (leads_to_null l.op) (map seen_irule (take l.place l.rules))
