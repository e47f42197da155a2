use Rattle.std.proofs.Common.{◌-◌, Some, length, sym, ap, ◌∙◌}
use Rattle.std.proofs.lemmas.Result.{err_from_is_err_and}
use Rattle.rule_syntax.specs.Reading.{listed_at, before}
use Rattle.rule_syntax.proofs.Opening.{passed_on, listed_out, listed_bad, listed_last, listed_more}
use Rattle.rule_syntax.proofs.reading.lists.listed.Goals as goal

pub returns-in_err-part : goal.returns-in_err-part
returns-in_err-part g c =
    let part = g.P.Parts in
    let p = err_from_is_err_and c.from_residual.result c.from_residual.ensures.1 in
    rw (p.1) (passed_on (part.reads c.loop-left.rest.now) (listed_at part.reads (length c.args.ts.now) c.args.ts.now) c.in_err-part.field-0.0 p.0 c.in_err-part.ensures
    (λ none. c.loop-left.invariant ∙ listed_bad part.reads c.loop-left.left c.loop-left.rest.now (part.all_seen c.loop-left.out) c.loop-left-test.true none) p.2)

pub loop-left-preserved : goal.loop-left-preserved
loop-left-preserved g c =
    let part = g.P.Parts in
    c.loop-left.invariant ∙
    listed_more part.reads c.loop-left.left c.loop-left.rest.now (part.all_seen c.loop-left.out) (part.seen c.in_ok-part.part) c.in_ok-part.behind.now c.in-Some.more.now c.loop-left-test.true c.in_ok-part.ensures c.in-Some.ensures ∙
    ap (λ ys. before ys (listed_at part.reads (c.loop-left.left - 1) c.in-Some.more.now)) (sym (ap part.all_seen c.in_ok-push.ensures.ok ∙ g.met.P.Parts.one_more c.loop-left.out c.in_ok-part.part))

pub returns-in-None : goal.returns-in-None
returns-in-None g c =
    let part = g.P.Parts in
    c.loop-left.invariant ∙
    listed_last part.reads c.loop-left.left c.loop-left.rest.now (part.all_seen c.loop-left.out) (part.seen c.in_ok-part.part) c.in_ok-part.behind.now c.loop-left-test.true c.in_ok-part.ensures c.in-None.ensures ∙
    ap (λ ys. Some (ys, c.in_ok-part.behind.now)) (sym (ap part.all_seen c.in_ok-push.ensures.ok ∙ g.met.P.Parts.one_more c.loop-left.out c.in_ok-part.part))

pub returns : goal.returns
returns g c =
    let part = g.P.Parts in
    c.loop-left.invariant ∙ listed_out part.reads c.loop-left.left c.loop-left.rest.now (part.all_seen c.loop-left.out) c.loop-left-test.false
