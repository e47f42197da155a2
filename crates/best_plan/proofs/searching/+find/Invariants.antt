use Rattle.std.proofs.Common.{◌≡◌, ◌+◌, ◌*◌, ◌≤◌, take}
use Rattle.best_plan.specs.Tables.{known, at_bounds, Leaves, KeepsUpper, AllHold}
use Rattle.best_plan.specs.Answers.{Stands, AllCost, IsLowest}
use Rattle.best_plan.proofs.LeastLaws.{count_below}
use Rattle.best_plan.proofs.searching.+find.Given as goal

abbrev pub decreases-find : goal.decreases-find
decreases-find g l = 5 * g.M.Moves.rank l.moves.now l.goal + 4

abbrev pub decreases-search : goal.decreases-search
decreases-search g l = 5 * g.M.Moves.rank l.moves.now l.goal + 3

abbrev pub decreases-attempt : goal.decreases-attempt
decreases-attempt g l = 5 * g.M.Moves.rank l.moves.now l.goal + 2

abbrev pub decreases-inputs_found : goal.decreases-inputs_found
decreases-inputs_found g l = 5 * g.M.Moves.rank l.moves.now l.goal + 1

abbrev pub decreases-input_found : goal.decreases-input_found
decreases-input_found g l = 5 * g.M.Moves.rank l.moves.now l.goal

-- the inputs so far hold solutions
abbrev pub invariant-inputs_found-loop-i : goal.invariant-inputs_found-loop-i
invariant-inputs_found-loop-i g l =
    let m = g.M.Choices.graph l.fn.moves in record {
      leaves : Leaves (g.M.Choices.later l.fn.moves l.moves) (g.M.Choices.graph l.moves) (g.M.Moves.reaches l.moves) l.fn.table l.table (KeepsUpper m (g.M.Moves.rank l.fn.moves) (known l.fn.table) (known l.table) l.goal);
      held : AllHold (known l.table) (take l.i (m.alternative l.goal l.k).inputs);
    }

abbrev pub invariant-search-loop-k : goal.invariant-search-loop-k
invariant-search-loop-k g l =
    let m = g.M.Choices.graph l.fn.moves in record {
      leaves : Leaves (g.M.Choices.later l.fn.moves l.moves) (g.M.Choices.graph l.moves) (g.M.Moves.reaches l.moves) l.fn.table l.table (KeepsUpper m (g.M.Moves.rank l.fn.moves) (known l.fn.table) (known l.table) l.goal);
      stands : Stands m (known l.table) l.goal l.limit l.best.cost l.best.choice;
      low : l.best.cost ≤ l.limit;
      least : IsLowest (g.M.Choices.graph l.moves) (known l.table) l.goal l.least;
      lazy : AllCost m (known l.fn.table) l.goal l.limit → l.moves ≡ l.fn.moves;
    }

-- how many alternatives may still cost less than the best
abbrev pub decreases-search-loop-k : goal.decreases-search-loop-k
decreases-search-loop-k g l =
    let m = g.M.Choices.graph l.fn.moves in count_below (m.count l.goal) (λ k. at_bounds (known l.table) (m.alternative l.goal k)) l.best.cost
