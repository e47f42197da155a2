use Rattle.std.proofs.Common.{◌≡◌, ◌++◌, take, map}
use Rattle.rule_ast.specs.Seen.{seen_trule}
use Rattle.rule_types.specs.Declarations.{placed, trule}
use Rattle.rule_types.specs.SeenDeclarations.{seen_declaration}
use Rattle.rule_types.proofs.declarations.push_trules.Given as goal

abbrev pub invariant-loop-i : goal.invariant-loop-i
invariant-loop-i l =
    map seen_declaration l.out.items
    ≡ map seen_declaration l.initial.out.items ++ map trule (placed (map seen_trule (take l.i l.trules)))
