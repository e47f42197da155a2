use Rattle.k_best.specs.Picks.{IsNext, AtMostAll}
use Rattle.k_best.proofs.picking.next.Given as goal

abbrev pub invariant-loop-solution : goal.invariant-loop-solution
invariant-loop-solution g l =
    let m = g.M.Choices.graph l.moves in record {
      next : IsNext m l.lists l.goal l.k l.taken l.best;
      least : AtMostAll m l.lists l.goal l.k l.taken l.best l.solution-index;
    }
