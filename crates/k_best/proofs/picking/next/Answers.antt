use Rattle.std.proofs.Common.{ℕ, List, length, subst, arith}
use Rattle.k_best.specs.Picks.{AtMostRaised}
use Rattle.k_best.proofs.ListLaws.{item}
use Rattle.k_best.proofs.PickLaws.{least_more}
use Rattle.k_best.proofs.picking.next.Goals as goal

pub loop-solution-preserved : goal.loop-solution-preserved
loop-solution-preserved g c =
    let m = g.M.Choices.graph c.args.moves.now in let l = c.args.lists.now in let ps = c.args.taken.now in
    let n = c.loop-solution.solution-index in let s = c.solution-item.result in let best = c.in_ok-best.best in
    record {
      next = c.in_ok-best.ensures.next;
      least = least_more m l c.args.goal c.args.k ps c.loop-solution.best best c.in_ok-best.ensures.low n s (item ps n s (omega arith) c.solution-item.is)
          (subst (λ (xs : List ℕ). AtMostRaised m l c.args.goal c.args.k ps best xs (length xs)) c.as_slice-inputs.ensures c.in_ok-best.ensures.raised)
          c.loop-solution.invariant.least;
    }
