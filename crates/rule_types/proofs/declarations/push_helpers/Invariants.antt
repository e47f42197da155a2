use Rattle.std.proofs.Common.{◌≡◌, ◌++◌, take, map}
use Rattle.rule_ast.specs.Seen.{seen_helper}
use Rattle.rule_types.specs.Declarations.{placed, helper}
use Rattle.rule_types.specs.SeenDeclarations.{seen_declaration}
use Rattle.rule_types.proofs.declarations.push_helpers.Given as goal

abbrev pub invariant-loop-i : goal.invariant-loop-i
invariant-loop-i l =
    map seen_declaration l.out.items
    ≡ map seen_declaration l.initial.out.items ++ map helper (placed (map seen_helper (take l.i l.helpers)))
