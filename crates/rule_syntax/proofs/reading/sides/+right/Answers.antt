use Rattle.std.proofs.Common.{◌-◌, Some, length, map, sym, ap, ◌∙◌}
use Rattle.std.proofs.lemmas.Result.{err_from_is_err_and}
use Rattle.rule_syntax.specs.Reading.{listed_at, before}
use Rattle.rule_syntax.specs.ReadingSides.{right_at, right_in_at}
use Rattle.rule_ast.specs.Seen.{seen_right_in}
use Rattle.rule_syntax.proofs.Opening.{passed_on, listed_out, listed_bad, listed_last, listed_more, map_push}
use Rattle.rule_syntax.proofs.reading.sides.+right.Goals as goal

pub listed_right_ins-returns-in_err-x : goal.listed_right_ins-returns-in_err-x
listed_right_ins-returns-in_err-x t c =
    let p = err_from_is_err_and c.from_residual.result c.from_residual.ensures.1 in
    rw (p.1) (passed_on (right_in_at (right_at c.args.levels) c.loop-left.rest.now) (listed_at (right_in_at (right_at c.args.levels)) (length c.args.ts.now) c.args.ts.now) c.in_err-x.field-0.0 p.0 c.in_err-x.ensures
    (λ none. c.loop-left.invariant ∙ listed_bad (right_in_at (right_at c.args.levels)) c.loop-left.left c.loop-left.rest.now (map seen_right_in c.loop-left.out) c.loop-left-test.true none) p.2)

pub listed_right_ins-loop-left-preserved : goal.listed_right_ins-loop-left-preserved
listed_right_ins-loop-left-preserved t c =
    c.loop-left.invariant ∙
    listed_more (right_in_at (right_at c.args.levels)) c.loop-left.left c.loop-left.rest.now (map seen_right_in c.loop-left.out) (seen_right_in c.in_ok-x.x) c.in_ok-x.behind.now c.in-Some.more.now
    c.loop-left-test.true c.in_ok-x.ensures c.in-Some.ensures ∙
    ap (λ ys. before ys (listed_at (right_in_at (right_at c.args.levels)) (c.loop-left.left - 1) c.in-Some.more.now))
    (sym (ap (map seen_right_in) c.in_ok-push.ensures.ok ∙ map_push seen_right_in c.loop-left.out c.in_ok-x.x))

pub listed_right_ins-returns-in-None : goal.listed_right_ins-returns-in-None
listed_right_ins-returns-in-None t c =
    c.loop-left.invariant ∙
    listed_last (right_in_at (right_at c.args.levels)) c.loop-left.left c.loop-left.rest.now (map seen_right_in c.loop-left.out) (seen_right_in c.in_ok-x.x) c.in_ok-x.behind.now
    c.loop-left-test.true c.in_ok-x.ensures c.in-None.ensures ∙
    ap (λ ys. Some (ys, c.in_ok-x.behind.now)) (sym (ap (map seen_right_in) c.in_ok-push.ensures.ok ∙ map_push seen_right_in c.loop-left.out c.in_ok-x.x))

pub listed_right_ins-returns : goal.listed_right_ins-returns
listed_right_ins-returns t c =
    c.loop-left.invariant ∙ listed_out (right_in_at (right_at c.args.levels)) c.loop-left.left c.loop-left.rest.now (map seen_right_in c.loop-left.out) c.loop-left-test.false
