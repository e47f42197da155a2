use Rattle.std.proofs.Common.{◌≡◌, map, take}
use Rattle.rule_ast.specs.Seen.{seen_irule}
use Rattle.enforcer_find.specs.Enforcers.{leads_to_algorithm, places}
use Rattle.enforcer_find.proofs.enforcers.algorithms.Given as goal

-- those of the rules so far
abbrev pub invariant-loop-place : goal.invariant-loop-place
invariant-loop-place l =
    l.places ≡ places (leads_to_algorithm l.op) (map seen_irule (take l.place l.rules))
