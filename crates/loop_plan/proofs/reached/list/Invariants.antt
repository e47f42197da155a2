use Rattle.std.proofs.Common.{◌≡◌, ◌++◌}
use Rattle.best_plan.specs.Tables.{with_room}
use Rattle.loop_plan.specs.Reached.{ways_of}
use Rattle.loop_plan.proofs.reached.list.Given as goal

abbrev pub invariant-loop-k : goal.invariant-loop-k
invariant-loop-k g l = l.reached ≡ record {
  root = l.fn.reached.root;
  table = with_room l.fn.reached.table (g.C.Choices.graph l.choices).goals;
  ways = l.fn.reached.ways ++ ways_of l.goal l.k;
}
