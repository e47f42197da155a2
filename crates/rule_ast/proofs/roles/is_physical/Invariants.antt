use Rattle.std.proofs.Common.{◌≡◌, drop, map}
use Rattle.std.specs.List.{list_any}
use Rattle.rule_ast.specs.Roles.{passes_on}
use Rattle.rule_ast.specs.Seen.{seen_irule}
use Rattle.rule_ast.proofs.roles.is_physical.Given as goal

abbrev pub invariant-loop-rule : goal.invariant-loop-rule
invariant-loop-rule l = list_any (passes_on l.property) (map seen_irule (drop l.rule-index l.rules)) ≡ list_any (passes_on l.property) (map seen_irule (l.rules))
