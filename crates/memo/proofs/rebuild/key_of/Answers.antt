use Rattle.std.proofs.Common.{subst, sym}
use Rattle.std.specs.List.{AllZip}
use Rattle.memo.specs.Rebuild.{IsRootClass}
use Rattle.memo.proofs.rebuild.key_of.Goals as goal

pub returns : goal.returns
returns g c =
    let e = c.expr_get-e.result.now in (
      e,
      c.expr_get-e.ensures,
      c.in_ok-label.ensures,
      subst (λ w. AllZip (IsRootClass c.args.exprs.now) e.inputs w) (sym c.from_vec.ensures) (subst (λ w. AllZip (IsRootClass c.args.exprs.now) w c.in_ok-inputs.inputs.items) c.as_slice.ensures c.in_ok-inputs.ensures),
    )
