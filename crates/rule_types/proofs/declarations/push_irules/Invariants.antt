use Rattle.std.proofs.Common.{◌≡◌, ◌++◌, take, map}
use Rattle.rule_ast.specs.Seen.{seen_irule}
use Rattle.rule_types.specs.Declarations.{placed, irule}
use Rattle.rule_types.specs.SeenDeclarations.{seen_declaration}
use Rattle.rule_types.proofs.declarations.push_irules.Given as goal

abbrev pub invariant-loop-i : goal.invariant-loop-i
invariant-loop-i l =
    map seen_declaration l.out.items
    ≡ map seen_declaration l.initial.out.items ++ map irule (placed (map seen_irule (take l.i l.irules)))
