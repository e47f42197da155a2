use Rattle.std.proofs.Common.{◌+◌, ◌-◌, ◌^◌, length, sym, subst, arith}
use Rattle.k_best.specs.Picks.{AreNear}
use Rattle.k_best.proofs.PickLaws.{near_raise, index_before}
use Rattle.k_best.proofs.picking.raises_tried.Goals as goal

pub raised-requires-clause-room : goal.raised-requires-clause-room
raised-requires-clause-room g c =
    let gs = ((g.M.Choices.graph c.args.moves.now).alternative c.args.goal c.args.k).inputs in
    omega (arith, index_before c.args.lists.now.spans (2 ^ 64 - 1) c.requires.fits gs c.args.inputs.now c.loop-j.j c.requires.within (omega arith))

pub tried-requires-clause-near : goal.tried-requires-clause-near
tried-requires-clause-near g c =
    let m = g.M.Choices.graph c.args.moves.now in let l = c.args.lists.now in
    subst (AreNear m l c.args.goal c.args.k (length c.args.taken.now + 1)) (sym c.in_ok-places.ensures)
    (near_raise m l (length c.args.taken.now) c.loop-j.j (m.alternative c.args.goal c.args.k).inputs c.args.inputs.now c.requires.near)
