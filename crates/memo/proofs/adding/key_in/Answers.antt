use Rattle.std.proofs.Common.{subst, sym}
use Rattle.std.specs.List.{AllZip}
use Rattle.memo.specs.Rebuild.{IsRootClass}
use Rattle.memo.proofs.adding.key_in.Goals as goal

pub returns : goal.returns
returns g c = (c.in_ok-label.ensures, subst (λ w. AllZip (IsRootClass c.args.exprs.now) c.args.classes.now w) (sym c.from_vec.ensures) c.in_ok-inputs.ensures)
