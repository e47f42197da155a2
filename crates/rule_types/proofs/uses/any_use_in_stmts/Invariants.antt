use Rattle.std.proofs.Common.{◌≡◌, drop, map}
use Rattle.std.specs.List.{list_any}
use Rattle.rule_ast.specs.Seen.{seen_stmt}
use Rattle.rule_types.specs.Uses.{any_use_in}
use Rattle.rule_types.proofs.uses.any_use_in_stmts.Given as goal

-- the rest decides
abbrev pub invariant-loop-s : goal.invariant-loop-s
invariant-loop-s g l =
    let any_in = any_use_in (g.Q.UseQuestion.asked l.question) in
    list_any any_in (map seen_stmt (drop l.s-index l.ss)) ≡ list_any any_in (map seen_stmt l.ss)
