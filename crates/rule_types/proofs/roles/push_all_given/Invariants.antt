use Rattle.std.proofs.Common.{◌≡◌, ◌||◌, map, take}
use Rattle.std.specs.List.{list_any}
use Rattle.pr_value.specs.SymbolSets.{contains}
use Rattle.pr_value.specs.Symbols.{Symbol}
use Rattle.rule_ast.specs.Roles.{assigns}
use Rattle.rule_ast.specs.Seen.{seen_stmt}
use Rattle.rule_types.proofs.roles.push_all_given.Given as goal

-- those of the statements so far
abbrev pub invariant-loop-s : goal.invariant-loop-s
invariant-loop-s l = (p : Symbol) → contains l.out.items p
    ≡ (contains l.initial.out.items p || list_any (assigns l.inputs p) (map seen_stmt (take l.s-index l.ss)))
