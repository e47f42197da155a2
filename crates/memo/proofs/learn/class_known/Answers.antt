use Rattle.std.proofs.Common.{rules, ◌≡◌, Some, slice_get, sym}
use Rattle.memo.proofs.learn.class_known.Goals as goal

pub returns-in-Some-expr_at : goal.returns-in-Some-expr_at
returns-in-Some-expr_at g c =
    let e = c.in-Some-expr_at.e.now in
    let at : slice_get c.args.exprs.now c.in-Some.k.expr ≡ Some e = (let h = c.in-Some-expr_at.ensures in search rules) in
    let (r, at_r, own) = c.requires c.in-Some.k.expr e at in
    (c.in-Some.k, c.in-Some.ensures, (e, r, at, at_r, sym own))
