use Rattle.std.proofs.Common.{rules, ◌≡◌, subst}
use Rattle.memo.specs.Forest.{IsKnownIn}
use Rattle.memo.proofs.learn.are_near.Goals as goal

pub returns-in-Some-class_known : goal.returns-in-Some-class_known
returns-in-Some-class_known g c = λ e.
    let same : c.in-Some-class_known.d ≡ c.in-Some.c = search rules in
    (c.in-Some.c, c.in-Some.ensures, subst (IsKnownIn c.args.exprs.now c.args.known.now c.args.b) same c.in-Some-class_known.ensures)
