use Rattle.std.proofs.Common.{◌≡◌, false, take}
use Rattle.best_plan.specs.Tables.{known, past_cap}
use Rattle.best_plan.proofs.costs.is_past_cap.Given as goal

abbrev pub invariant-loop-i : goal.invariant-loop-i
invariant-loop-i g l = past_cap (known l.table) (take l.i ((g.M.Choices.graph l.moves).alternative l.goal l.k).inputs) ≡ false
