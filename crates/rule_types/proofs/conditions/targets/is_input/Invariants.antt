use Rattle.std.proofs.Common.{◌≡◌, drop}
use Rattle.pr_value.specs.SymbolSets.{contains}
use Rattle.rule_ast.specs.Descs.{names_of}
use Rattle.rule_types.proofs.conditions.targets.is_input.Given as goal

-- the rest decides
abbrev pub invariant-loop-input : goal.invariant-loop-input
invariant-loop-input l =
    contains (names_of (drop l.input-index l.inputs)) l.desc
    ≡ contains (names_of l.inputs) l.desc
