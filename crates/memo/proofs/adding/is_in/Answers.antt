use Rattle.std.proofs.Common.{rules, ◌≡◌, Some, slice_get}
use Rattle.memo.proofs.AddLaws.{known_class}
use Rattle.memo.proofs.adding.is_in.Goals as goal

pub returns-in-Some-expr_at : goal.returns-in-Some-expr_at
returns-in-Some-expr_at g c = λ same.
    let e = c.in-Some-expr_at.e.now in
    let at : slice_get c.args.exprs.now c.args.class ≡ Some e = (let h = c.in-Some-expr_at.ensures in search rules) in
    let is : c.in-Some.c ≡ e.class = search rules in
    known_class c.args.exprs.now c.args.known.now c.args.n c.in-Some.c c.args.class e c.requires c.in-Some.ensures at is
