use Rattle.std.proofs.Common.{◌≡◌, drop, map}
use Rattle.std.specs.List.{list_any}
use Rattle.rule_ast.specs.Roles.{leads_to_null}
use Rattle.rule_ast.specs.Seen.{seen_irule}
use Rattle.rule_ast.proofs.roles.is_enforcer.Given as goal

abbrev pub invariant-loop-rule : goal.invariant-loop-rule
invariant-loop-rule l = list_any (leads_to_null l.op) (map seen_irule (drop l.rule-index l.rules)) ≡ list_any (leads_to_null l.op) (map seen_irule (l.rules))
