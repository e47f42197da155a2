use Rattle.std.proofs.Common.{◌+◌, length, sym, subst, arith}
use Rattle.k_best.specs.Picks.{AreNear}
use Rattle.k_best.proofs.PickLaws.{near_starts}
use Rattle.k_best.proofs.picking.first.Goals as goal

pub tried-requires-clause-near : goal.tried-requires-clause-near
tried-requires-clause-near g c =
    let m = g.M.Choices.graph c.args.moves.now in let l = c.args.lists.now in let n = length c.as_slice.result.now + 1 in
    subst (AreNear m l c.args.goal c.args.k n) (sym c.in_ok-inputs.ensures) (near_starts l n (omega arith) (m.alternative c.args.goal c.args.k).inputs)
