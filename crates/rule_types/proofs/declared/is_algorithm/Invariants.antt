use Rattle.std.proofs.Common.{◌≡◌, drop}
use Rattle.pr_value.specs.SymbolSets.{contains}
use Rattle.rule_types.specs.Conditions.{algorithm_names}
use Rattle.rule_types.proofs.declared.is_algorithm.Given as goal

-- the rest decides
abbrev pub invariant-loop-known : goal.invariant-loop-known
invariant-loop-known l =
    contains (algorithm_names (drop l.known-index l.algorithms)) l.name
    ≡ contains (algorithm_names l.algorithms) l.name
