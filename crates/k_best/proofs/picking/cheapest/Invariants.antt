use Rattle.std.proofs.Common.{◌-◌, ◌≤◌, List, length}
use Rattle.std.specs.Prelude.{◌⊎◌}
use Rattle.k_best.specs.Showings.{Showing, shown}
use Rattle.k_best.specs.Picks.{AreTaken, HasFirst, AreShown, IsFrom, NoneDearer}
use Rattle.k_best.proofs.picking.cheapest.Given as goal

-- what inputs show is taken, or costs no less than all that are taken
abbrev pub invariant-loop-alloc : goal.invariant-loop-alloc
invariant-loop-alloc g l =
    let m = g.M.Choices.graph l.moves in let face = g.M.Faces.face l.moves in record {
      taken : AreTaken m l.lists l.goal l.k l.taken;
      first : HasFirst m l.lists l.goal l.k l.taken;
      few : length l.taken ≤ l.most;
      dear : (vs : List Showing) → AreShown m face l.goal l.k vs → IsFrom (shown face l.lists.solutions) l.taken vs ⊎ NoneDearer m l.goal l.k l.taken vs;
    }

abbrev pub decreases-loop-alloc : goal.decreases-loop-alloc
decreases-loop-alloc g l = l.most - length l.taken
