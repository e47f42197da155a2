use Rattle.std.proofs.Common.{◌+◌, ◌∙◌, nat_eq, ap, sym}
use Rattle.derivation.specs.Slices.{one_if}
use Rattle.memo.proofs.CountLaws.{live_more, class_more, few_more}
use Rattle.memo.proofs.counts.count_all.Goals as goal

pub loop-i-preserved : goal.loop-i-preserved
loop-i-preserved g c =
    let e = c.expr_get-e.result.now in
    let i = c.loop-i.i in
    let inv = c.loop-i.invariant in record {
      classes = c.more-classes.ensures ∙ ap (λ m. m + one_if (nat_eq e.class i)) inv.classes ∙ sym (class_more c.args.exprs.now i e c.expr_get-e.ensures);
      expressions = c.more-expressions.ensures ∙ ap (λ m. m + one_if e.live) inv.expressions ∙ sym (live_more c.args.exprs.now i e c.expr_get-e.ensures);
      few = few_more c.more-classes.result c.loop-i.classes i (nat_eq e.class i) c.more-classes.ensures inv.few;
      fewer = few_more c.more-expressions.result c.loop-i.expressions i e.live c.more-expressions.ensures inv.fewer;
    }
