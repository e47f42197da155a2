use Rattle.std.proofs.Common.{◌-◌, ◌≤◌, length}
use Rattle.k_best.specs.Picks.{ArePicks, IsChoice}
use Rattle.k_best.proofs.choosing.chosen_from.Given as goal

abbrev pub invariant-loop-alloc : goal.invariant-loop-alloc
invariant-loop-alloc g l = record {
  picks : ArePicks (g.M.Choices.graph l.moves) l.lists l.goal l.chosen;
  few : length l.chosen ≤ l.most;
  choice : IsChoice (g.M.Faces.face l.moves) l.lists l.pool l.chosen;
}

abbrev pub decreases-loop-alloc : goal.decreases-loop-alloc
decreases-loop-alloc g l = l.most - length l.chosen
