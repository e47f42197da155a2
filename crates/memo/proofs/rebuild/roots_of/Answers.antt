use Rattle.std.proofs.Common.{◌+◌, take, subst, sym, refl, arith}
use Rattle.std.specs.List.{AllZip}
use Rattle.memo.specs.Rebuild.{IsRootClass}
use Rattle.memo.proofs.RowLaws.{zip_more}
use Rattle.memo.proofs.rebuild.roots_of.Goals as goal

pub loop-c-preserved : goal.loop-c-preserved
loop-c-preserved g c =
    subst (λ w. AllZip (IsRootClass c.args.exprs.now) (take (c.loop-c.c-index + 1) c.args.classes.now) w) (sym c.in_ok-push.ensures.items)
    (zip_more (IsRootClass c.args.exprs.now) c.args.classes.now c.loop-c.out.items c.loop-c.c-index 0 c.expr_get-e.result.now.class (omega arith) c.loop-c.invariant (c.expr_get-e.result.now, c.expr_get-e.ensures, refl))
