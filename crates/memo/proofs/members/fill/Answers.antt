use Rattle.std.proofs.Common.{◌<◌, length, sym, subst}
use Rattle.memo.proofs.MemberLaws.{none_first, filled}
use Rattle.memo.proofs.members.fill.Goals as goal

pub loop-i-init : goal.loop-i-init
loop-i-init g c = none_first c.args.rows.now (length c.args.exprs.now) c.args.exprs.now c.requires.none

pub put_at-requires : goal.put_at-requires
put_at-requires g c =
    let e = c.expr_get-e.result.now in
    subst (λ n. e.class < n) (sym c.loop-i.invariant.0) (c.requires.classes c.loop-i.i e c.expr_get-e.ensures)

pub loop-i-preserved : goal.loop-i-preserved
loop-i-preserved g c = filled c.loop-i.rows c.put_at.new.rows c.args.exprs.now c.loop-i.i c.expr_get-e.result.now c.expr_get-e.ensures c.loop-i.invariant c.in_ok-put_at.ensures
