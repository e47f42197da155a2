use Rattle.std.proofs.Common.{ℕ}
use Rattle.k_best.specs.Picks.{IsNext, AtMost, AtMostRaised}
use Rattle.k_best.proofs.picking.raises_tried.Given as goal

abbrev pub invariant-loop-j : goal.invariant-loop-j
invariant-loop-j g l =
    let m = g.M.Choices.graph l.moves in record {
      next : IsNext m l.lists l.goal l.k l.taken l.best;
      low : (c : ℕ) → AtMost l.fn.so_far c → AtMost l.best c;
      raised : AtMostRaised m l.lists l.goal l.k l.taken l.best l.inputs l.j;
    }
