use Rattle.std.proofs.Common.{◌≡◌, drop}
use Rattle.rule_ast.specs.CostForms.{cost_name}
use Rattle.rule_ast.proofs.cost_forms.cost_name.Given as goal

abbrev pub invariant-loop-property : goal.invariant-loop-property
invariant-loop-property l = cost_name (drop l.property-index l.properties) ≡ cost_name l.properties
