use Rattle.std.proofs.Common.{◌≡◌, drop, map}
use Rattle.pr_value.specs.SymbolSets.{contains}
use Rattle.rule_ast.specs.Seen.{seen_helper}
use Rattle.rule_types.specs.Conditions.{helper_names}
use Rattle.rule_types.proofs.declared.is_helper.Given as goal

-- the rest decides
abbrev pub invariant-loop-known : goal.invariant-loop-known
invariant-loop-known l =
    contains (helper_names (map seen_helper (drop l.known-index l.helpers))) l.name
    ≡ contains (helper_names (map seen_helper l.helpers)) l.name
