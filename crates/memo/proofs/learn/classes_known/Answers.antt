use Rattle.std.proofs.Common.{◌+◌, take, subst, sym, arith}
use Rattle.memo.specs.Forest.{IsKnownIn}
use Rattle.memo.specs.Learn.{AreKnownIn}
use Rattle.memo.proofs.RowLaws.{zip_more}
use Rattle.memo.proofs.learn.classes_known.Goals as goal

pub loop-n-preserved : goal.loop-n-preserved
loop-n-preserved g c =
    subst (λ w. AreKnownIn c.args.exprs.now c.args.known.now (take (c.loop-n.n-index + 1) c.args.terms.now) w) (sym c.in_ok-push-in-Some.ensures.items)
    (zip_more (IsKnownIn c.args.exprs.now c.args.known.now) c.args.terms.now c.loop-n.out.items c.loop-n.n-index 0 c.in-Some.class (omega arith) c.loop-n.invariant c.in-Some.ensures)
