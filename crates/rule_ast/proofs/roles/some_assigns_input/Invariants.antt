use Rattle.std.proofs.Common.{◌≡◌, drop, map}
use Rattle.std.specs.List.{list_any}
use Rattle.rule_ast.specs.Descs.{names_of}
use Rattle.rule_ast.specs.Roles.{assigns}
use Rattle.rule_ast.specs.Seen.{seen_stmt}
use Rattle.rule_ast.proofs.roles.some_assigns_input.Given as goal

abbrev pub invariant-loop-s : goal.invariant-loop-s
invariant-loop-s l = list_any (assigns (names_of l.inputs) l.property) (map seen_stmt (drop l.s-index l.ss)) ≡ list_any (assigns (names_of l.inputs) l.property) (map seen_stmt (l.ss))
