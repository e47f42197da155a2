use Rattle.std.proofs.Common.{◌≡◌, ◌++◌, take, map}
use Rattle.rule_ast.specs.Seen.{seen_operator}
use Rattle.rule_types.specs.Declarations.{placed, operator}
use Rattle.rule_types.specs.SeenDeclarations.{seen_declaration}
use Rattle.rule_types.proofs.declarations.push_operators.Given as goal

abbrev pub invariant-loop-i : goal.invariant-loop-i
invariant-loop-i l =
    map seen_declaration l.out.items
    ≡ map seen_declaration l.initial.out.items ++ map operator (placed (map seen_operator (take l.i l.operators)))
