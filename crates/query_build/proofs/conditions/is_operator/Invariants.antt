use Rattle.std.proofs.Common.{◌≡◌, drop, map}
use Rattle.pr_value.specs.SymbolSets.{contains}
use Rattle.rule_ast.specs.Seen.{seen_operator}
use Rattle.rule_types.specs.Conditions.{operator_names}
use Rattle.query_build.proofs.conditions.is_operator.Given as goal

-- the rest decides
abbrev pub invariant-loop-known : goal.invariant-loop-known
invariant-loop-known l =
    contains (operator_names (map seen_operator (drop l.known-index l.operators))) l.name
    ≡ contains (operator_names (map seen_operator l.operators)) l.name
