use Rattle.std.proofs.Common.{◌-◌, Some, length, map, sym, ap, ◌∙◌}
use Rattle.std.proofs.lemmas.Result.{err_from_is_err_and}
use Rattle.rule_syntax.specs.Reading.{listed_at, before}
use Rattle.rule_syntax.specs.ReadingExpr.{expr_at}
use Rattle.rule_ast.specs.Seen.{seen_expr}
use Rattle.rule_syntax.proofs.Opening.{passed_on, listed_out, listed_bad, listed_last, listed_more, map_push}
use Rattle.rule_syntax.proofs.reading.expr.+expr.Goals as goal

pub listed_exprs-returns-in_err-e : goal.listed_exprs-returns-in_err-e
listed_exprs-returns-in_err-e t c =
    let p = err_from_is_err_and c.from_residual.result c.from_residual.ensures.1 in
    rw (p.1) (passed_on (expr_at c.args.levels c.loop-left.rest.now) (listed_at (expr_at c.args.levels) (length c.args.ts.now) c.args.ts.now) c.in_err-e.field-0.0 p.0 c.in_err-e.ensures
    (λ none. c.loop-left.invariant ∙ listed_bad (expr_at c.args.levels) c.loop-left.left c.loop-left.rest.now (map seen_expr c.loop-left.out) c.loop-left-test.true none) p.2)

pub listed_exprs-loop-left-preserved : goal.listed_exprs-loop-left-preserved
listed_exprs-loop-left-preserved t c =
    c.loop-left.invariant ∙
    listed_more (expr_at c.args.levels) c.loop-left.left c.loop-left.rest.now (map seen_expr c.loop-left.out) (seen_expr c.in_ok-e.e) c.in_ok-e.behind.now c.in-Some.more.now
    c.loop-left-test.true c.in_ok-e.ensures c.in-Some.ensures ∙
    ap (λ ys. before ys (listed_at (expr_at c.args.levels) (c.loop-left.left - 1) c.in-Some.more.now))
    (sym (ap (map seen_expr) c.in_ok-push.ensures.ok ∙ map_push seen_expr c.loop-left.out c.in_ok-e.e))

pub listed_exprs-returns-in-None : goal.listed_exprs-returns-in-None
listed_exprs-returns-in-None t c =
    c.loop-left.invariant ∙
    listed_last (expr_at c.args.levels) c.loop-left.left c.loop-left.rest.now (map seen_expr c.loop-left.out) (seen_expr c.in_ok-e.e) c.in_ok-e.behind.now
    c.loop-left-test.true c.in_ok-e.ensures c.in-None.ensures ∙
    ap (λ ys. Some (ys, c.in_ok-e.behind.now)) (sym (ap (map seen_expr) c.in_ok-push.ensures.ok ∙ map_push seen_expr c.loop-left.out c.in_ok-e.e))

pub listed_exprs-returns : goal.listed_exprs-returns
listed_exprs-returns t c =
    c.loop-left.invariant ∙ listed_out (expr_at c.args.levels) c.loop-left.left c.loop-left.rest.now (map seen_expr c.loop-left.out) c.loop-left-test.false
