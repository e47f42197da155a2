use Rattle.std.proofs.Common.{◌≡◌, ◌≤◌, length, drop}
use Rattle.std.specs.BTreeMap.{get}
use Rattle.pr_value.specs.Symbols.{Symbol}
use Rattle.pr_value.specs.SymbolSets.{compare_symbols}
use Rattle.rule_ast.specs.Typing.{params_context, var_type}
use Rattle.rule_types.proofs.param_types.types_of.Given as goal

-- those from the place on decide
abbrev pub invariant-params : goal.invariant-params
invariant-params l = record {
  within : l.place ≤ length l.params;
  found : (x : Symbol) → get compare_symbols l.types x ≡ var_type (params_context (drop l.place l.params)).vars x;
}

abbrev pub decreases-params : goal.decreases-params
decreases-params l = l.place
