use Rattle.std.proofs.Common.{◌-◌, ◌<◌, length, sym, ap, ◌∙◌, arith}
use Rattle.std.proofs.lemmas.Result.{err_from_is_err_and}
use Rattle.rule_syntax.specs.Reading.{begins, many_at, before}
use Rattle.rule_syntax.proofs.Opening.{passed_on, many_last, many_out, many_bad, many_more}
use Rattle.rule_syntax.proofs.reading.lists.section.Goals as goal

pub returns-then-left-eq0 : goal.returns-then-left-eq0
returns-then-left-eq0 g c =
    let part = g.P.Parts in
    c.loop-alloc.invariant ∙ many_out (begins c.args.word.now) part.reads c.loop-alloc.left c.loop-alloc.rest.now (part.all_seen c.loop-alloc.out) (sym c.next_is.ensures ∙ c.loop-alloc-test.true) c.if-left-eq0.true

pub returns-in_err-part : goal.returns-in_err-part
returns-in_err-part g c =
    let part = g.P.Parts in
    let goes = begins c.args.word.now in
    let some : 0 < c.loop-alloc.left = omega (arith, c.if-left-eq0.false) in
    let p = err_from_is_err_and c.from_residual.result c.from_residual.ensures.1 in
    rw (p.1) (passed_on (part.reads c.loop-alloc.rest.now) (many_at goes part.reads (length c.args.ts.now) c.args.ts.now) c.in_err-part.field-0.0 p.0 c.in_err-part.ensures
    (λ none. c.loop-alloc.invariant ∙ many_bad goes part.reads c.loop-alloc.left c.loop-alloc.rest.now (part.all_seen c.loop-alloc.out) (sym c.next_is.ensures ∙ c.loop-alloc-test.true) some none) p.2)

pub loop-alloc-preserved : goal.loop-alloc-preserved
loop-alloc-preserved g c =
    let part = g.P.Parts in
    let goes = begins c.args.word.now in
    let some : 0 < c.loop-alloc.left = omega (arith, c.if-left-eq0.false) in
    c.loop-alloc.invariant ∙
    many_more goes part.reads c.loop-alloc.left c.loop-alloc.rest.now (part.all_seen c.loop-alloc.out) (part.seen c.in_ok-part.part) c.in_ok-part.behind.now (sym c.next_is.ensures ∙ c.loop-alloc-test.true) some c.in_ok-part.ensures ∙
    ap (λ ys. before ys (many_at goes part.reads (c.loop-alloc.left - 1) c.in_ok-part.behind.now)) (sym (ap part.all_seen c.in_ok-push.ensures.ok ∙ g.met.P.Parts.one_more c.loop-alloc.out c.in_ok-part.part))

pub returns : goal.returns
returns g c =
    let part = g.P.Parts in
    c.loop-alloc.invariant ∙ many_last (begins c.args.word.now) part.reads c.loop-alloc.left c.loop-alloc.rest.now (part.all_seen c.loop-alloc.out) (sym c.next_is.ensures ∙ c.loop-alloc-test.false)
