use Rattle.std.proofs.Common.{◌+◌}
use Rattle.pr_value.specs.Capped.{cap}
use Rattle.best_plan.specs.Tables.{known, at_bounds}
use Rattle.best_plan.specs.Answers.{IsLeastOf}
use Rattle.best_plan.proofs.costs.lowest.Given as goal

abbrev pub invariant-loop-k : goal.invariant-loop-k
invariant-loop-k g l = IsLeastOf l.k (λ j. at_bounds (known l.table) ((g.M.Choices.graph l.moves).alternative l.goal j)) (cap + 1) l.best
