use Rattle.std.proofs.Common.{ℕ, ◌+◌, ◌*◌, ◌≤◌, ◌<◌, take}
use Rattle.std.specs.Prelude.{⊤}
use Rattle.pr_value.specs.Capped.{cap}
use Rattle.best_plan.specs.Tables.{known, at_bounds, Leaves, KeepsUpper, AllHold}
use Rattle.best_plan.specs.Answers.{Stands}
use Rattle.best_plan.proofs.solving.+solve.Given as goal

abbrev pub decreases-solve : goal.decreases-solve
decreases-solve g l = 4 * g.M.Moves.rank l.moves.now l.goal + 3

abbrev pub decreases-solve_undecided : goal.decreases-solve_undecided
decreases-solve_undecided g l = 4 * g.M.Moves.rank l.moves.now l.goal + 2

abbrev pub decreases-tried : goal.decreases-tried
decreases-tried g l = 4 * g.M.Moves.rank l.moves.now l.goal + 1

abbrev pub decreases-inputs_solved : goal.decreases-inputs_solved
decreases-inputs_solved g l = 4 * g.M.Moves.rank l.moves.now l.goal

abbrev pub invariant-inputs_solved-loop-i : goal.invariant-inputs_solved-loop-i
invariant-inputs_solved-loop-i g l =
    let m = g.M.Choices.graph l.moves in record {
      leaves : Leaves ⊤ m (g.M.Moves.reaches l.moves) l.fn.table l.table (KeepsUpper m (g.M.Moves.rank l.moves) (known l.fn.table) (known l.table) l.goal);
      held : AllHold (known l.table) (take l.i (m.alternative l.goal l.k).inputs);
    }

abbrev pub invariant-solve_undecided-loop-k : goal.invariant-solve_undecided-loop-k
invariant-solve_undecided-loop-k g l =
    let m = g.M.Choices.graph l.moves in record {
      leaves : Leaves ⊤ m (g.M.Moves.reaches l.moves) l.fn.table l.table (KeepsUpper m (g.M.Moves.rank l.moves) (known l.fn.table) (known l.table) l.goal);
      stands : Stands m (known l.table) l.goal (cap + 1) l.best.cost l.best.choice;
      low : l.best.cost ≤ cap + 1;
      past : (j : ℕ) → j < l.k → l.best.cost ≤ at_bounds (known l.table) (m.alternative l.goal j);
    }
