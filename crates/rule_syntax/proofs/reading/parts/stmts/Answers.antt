use Rattle.std.proofs.Common.{◌-◌, ◌<◌, length, map, sym, ap, ◌∙◌, arith}
use Rattle.std.specs.Prelude.{not}
use Rattle.std.proofs.lemmas.Result.{err_from_is_err_and}
use Rattle.pr_value.specs.declared.token.Mark.TheVariants.{CloseBrace}
use Rattle.rule_syntax.specs.Levels.{most_levels}
use Rattle.rule_syntax.specs.Reading.{unmarked, many_at, before}
use Rattle.rule_syntax.specs.ReadingParts.{stmt_at}
use Rattle.rule_ast.specs.Seen.{seen_stmt}
use Rattle.rule_syntax.proofs.Opening.{passed_on, many_last, many_out, many_bad, many_more, map_push}
use Rattle.rule_syntax.proofs.reading.parts.stmts.Goals as goal

pub returns-then-left-eq0 : goal.returns-then-left-eq0
returns-then-left-eq0 c =
    c.loop-alloc.invariant ∙ many_out (unmarked CloseBrace) (stmt_at most_levels) c.loop-alloc.left c.loop-alloc.rest.now (map seen_stmt c.loop-alloc.out) (ap not (sym c.next_is_mark.ensures ∙ c.loop-alloc-test.true)) c.if-left-eq0.true

pub returns-in_err-s : goal.returns-in_err-s
returns-in_err-s c =
    let some : 0 < c.loop-alloc.left = omega (arith, c.if-left-eq0.false) in
    let p = err_from_is_err_and c.from_residual.result c.from_residual.ensures.1 in
    rw (p.1) (passed_on ((stmt_at most_levels) c.loop-alloc.rest.now) (many_at (unmarked CloseBrace) (stmt_at most_levels) (length c.args.ts.now) c.args.ts.now) c.in_err-s.field-0.0 p.0 c.in_err-s.ensures
    (λ none. c.loop-alloc.invariant ∙ many_bad (unmarked CloseBrace) (stmt_at most_levels) c.loop-alloc.left c.loop-alloc.rest.now (map seen_stmt c.loop-alloc.out) (ap not (sym c.next_is_mark.ensures ∙ c.loop-alloc-test.true)) some none) p.2)

pub loop-alloc-preserved : goal.loop-alloc-preserved
loop-alloc-preserved c =
    let some : 0 < c.loop-alloc.left = omega (arith, c.if-left-eq0.false) in
    c.loop-alloc.invariant ∙
    many_more (unmarked CloseBrace) (stmt_at most_levels) c.loop-alloc.left c.loop-alloc.rest.now (map seen_stmt c.loop-alloc.out) (seen_stmt c.in_ok-s.s) c.in_ok-s.behind.now (ap not (sym c.next_is_mark.ensures ∙ c.loop-alloc-test.true)) some c.in_ok-s.ensures ∙
    ap (λ ys. before ys (many_at (unmarked CloseBrace) (stmt_at most_levels) (c.loop-alloc.left - 1) c.in_ok-s.behind.now)) (sym (ap (map seen_stmt) c.in_ok-push.ensures.ok ∙ map_push seen_stmt c.loop-alloc.out c.in_ok-s.s))

pub returns : goal.returns
returns c = c.loop-alloc.invariant ∙ many_last (unmarked CloseBrace) (stmt_at most_levels) c.loop-alloc.left c.loop-alloc.rest.now (map seen_stmt c.loop-alloc.out) (ap not (sym c.next_is_mark.ensures ∙ c.loop-alloc-test.false))
