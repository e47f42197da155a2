use Rattle.std.proofs.Common.{◌≡◌, length, take, map}
use Rattle.best_plan.specs.Tables.{known}
use Rattle.best_plan.proofs.costs.bounds_of.Given as goal

abbrev pub invariant-loop-i : goal.invariant-loop-i
invariant-loop-i g l = record {
  long : length l.bounds ≡ 4;
  are : take l.i l.bounds ≡ map (known l.table).bound (take l.i ((g.M.Choices.graph l.moves).alternative l.goal l.k).inputs);
}
