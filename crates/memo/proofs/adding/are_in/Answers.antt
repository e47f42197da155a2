use Rattle.std.proofs.Common.{rules, arith}
use Rattle.memo.specs.Forest.{IsKnownIn}
use Rattle.memo.proofs.RowLaws.{zip_both}
use Rattle.memo.proofs.adding.are_in.Goals as goal

pub loop-i-preserved : goal.loop-i-preserved
loop-i-preserved g c =
    zip_both (IsKnownIn c.args.exprs.now c.args.known.now) c.args.terms.now c.args.classes.now c.loop-i.i 0 0 (omega arith) (omega arith) c.loop-i.invariant
    (c.is_in.ensures (let h = c.if-not-is_in.false in search rules))
