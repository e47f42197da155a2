use Rattle.std.proofs.Common.{◌≡◌, drop, map}
use Rattle.std.specs.List.{list_all}
use Rattle.rule_ast.specs.Seen.{seen_helper, seen_stmt}
use Rattle.rule_ast.specs.Typing.{is_typed_stmt, signatures_of}
use Rattle.rule_types.specs.Contexts.{seen_context}
use Rattle.rule_types.proofs.statements.are_typed_stmts.Given as goal

-- the rest decides
abbrev pub invariant-loop-s : goal.invariant-loop-s
invariant-loop-s l =
    let is_typed = is_typed_stmt l.properties (signatures_of (map seen_helper l.helpers)) (seen_context l.context) in
    list_all is_typed (map seen_stmt l.ss) ≡ list_all is_typed (map seen_stmt (drop l.s-index l.ss))
