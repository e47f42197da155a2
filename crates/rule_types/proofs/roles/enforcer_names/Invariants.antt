use Rattle.std.proofs.Common.{◌≡◌, map, take}
use Rattle.pr_value.specs.SymbolSets.{contains}
use Rattle.pr_value.specs.Symbols.{Symbol}
use Rattle.rule_ast.specs.Roles.{is_enforcer}
use Rattle.rule_ast.specs.Seen.{seen_irule}
use Rattle.rule_types.proofs.roles.enforcer_names.Given as goal

-- those of the rules so far
abbrev pub invariant-loop-rule : goal.invariant-loop-rule
invariant-loop-rule l = (op : Symbol) → contains l.names.items op ≡ is_enforcer (map seen_irule (take l.rule-index l.rules)) op
