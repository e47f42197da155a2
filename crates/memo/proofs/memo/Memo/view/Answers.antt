use Rattle.std.proofs.Common.{◌≡◌, ◌<◌, ◌∙◌, List, Some, length, slice_get, refl, ap, sym, subst}
use Rattle.memo.specs.declared.expr.Expr.{Expr}
use Rattle.memo.proofs.ViewLaws.{root_low, oldest}
use Rattle.memo.proofs.memo.Memo.view.Goals as goal

pub expr_get-oldest-requires : goal.expr_get-oldest-requires
expr_get-oldest-requires g c =
    let m = c.self.inside in
    let forest = (c.self.invariant (ap (λ v. v.spoilt) c.self.view_is ∙ c.requires.sound)).memo.forest in
    let at : slice_get m.exprs.items c.args.class ≡ Some c.expr_get-e.result.now = ap (λ w. slice_get w c.args.class) (sym c.as_slice.ensures.value) ∙ c.expr_get-e.ensures in
    subst (λ (es : List (Expr g.row.L.Denot)). c.expr_get-e.result.now.class < length es) (sym c.as_slice-2.ensures.value) (root_low m.log.terms m.log.lines m.exprs.items m.known.items forest c.args.class c.expr_get-e.result.now at)

pub returns : goal.returns
returns g c =
    let m = c.self.inside in
    let forest = (c.self.invariant (ap (λ v. v.spoilt) c.self.view_is ∙ c.requires.sound)).memo.forest in
    let at : slice_get m.exprs.items c.args.class ≡ Some c.expr_get-e.result.now = ap (λ w. slice_get w c.args.class) (sym c.as_slice.ensures.value) ∙ c.expr_get-e.ensures in
    let e = c.expr_get-e.result.now in
    let at_r : slice_get m.exprs.items e.class ≡ Some c.expr_get-oldest.result.now = ap (λ w. slice_get w e.class) (sym c.as_slice-2.ensures.value) ∙ c.expr_get-oldest.ensures in
    rw (← c.self.view_is) (e, c.expr_get-oldest.result.now, at, at_r, refl, oldest m.log.terms m.log.lines m.exprs.items m.known.items forest c.args.class e at)
