use Rattle.k_best.specs.Picks.{IsCheapestNew}
use Rattle.k_best.proofs.choosing.cheapest_new.Given as goal

abbrev pub invariant-loop-i : goal.invariant-loop-i
invariant-loop-i g l = IsCheapestNew (g.M.Faces.face l.moves) l.lists l.pool l.chosen l.i l.best
