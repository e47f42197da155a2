use Rattle.std.proofs.Common.{◌≡◌, ℕ, ◌+◌, ◌*◌, ◌<◌, length, take}
use Rattle.std.specs.List.{AllByRecursion}
use Rattle.k_best.specs.Lists.{AreRight, IsDone}
use Rattle.k_best.specs.Picks.{AllDone}
use Rattle.k_best.proofs.best.+visit.Given as goal

abbrev pub decreases-visit : goal.decreases-visit
decreases-visit g l = 2 * g.M.Moves.rank l.moves.now l.goal + 1

abbrev pub decreases-visit_inputs : goal.decreases-visit_inputs
decreases-visit_inputs g l = 2 * g.M.Moves.rank l.moves.now l.goal

abbrev pub invariant-visit-loop-k : goal.invariant-visit-loop-k
invariant-visit-loop-k g l =
    let m = g.M.Choices.graph l.moves in record {
      right : AreRight m (g.M.Faces.face l.moves) l.most l.lists;
      room : length l.lists.spans ≡ m.goals;
      kept : (h : ℕ) → IsDone l.fn.lists.spans h → IsDone l.lists.spans h;
      done : (k : ℕ) → k < l.k → AllDone m l.lists l.goal k;
    }

abbrev pub invariant-visit_inputs-loop-i : goal.invariant-visit_inputs-loop-i
invariant-visit_inputs-loop-i g l =
    let m = g.M.Choices.graph l.moves in record {
      right : AreRight m (g.M.Faces.face l.moves) l.most l.lists;
      room : length l.lists.spans ≡ m.goals;
      kept : (h : ℕ) → IsDone l.fn.lists.spans h → IsDone l.lists.spans h;
      done : AllByRecursion (IsDone l.lists.spans) (take l.i (m.alternative l.goal l.k).inputs);
    }
