use Rattle.std.proofs.Common.{rules, refl}
use Rattle.memo.proofs.memo.Memo.expr_label.Goals as goal

pub returns : goal.returns
returns g c = rw (← c.self.view_is) (c.expr_get.result.now, (let h = c.expr_get.ensures in let v = c.as_slice.ensures.value in search rules), refl)
