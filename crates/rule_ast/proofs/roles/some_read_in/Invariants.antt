use Rattle.std.proofs.Common.{◌≡◌, drop, map}
use Rattle.std.specs.List.{list_any}
use Rattle.rule_ast.specs.Roles.{any_read_in}
use Rattle.rule_ast.specs.Seen.{seen_stmt}
use Rattle.rule_ast.proofs.roles.some_read_in.Given as goal

abbrev pub invariant-loop-s : goal.invariant-loop-s
invariant-loop-s g l = list_any (any_read_in (g.Q.ReadQuestion.asked l.question)) (map seen_stmt (drop l.s-index l.ss)) ≡ list_any (any_read_in (g.Q.ReadQuestion.asked l.question)) (map seen_stmt l.ss)
