use Rattle.std.proofs.Common.{◌≡◌, drop, min}
use Rattle.pr_value.specs.Capped.{cap}
use Rattle.prairie_tests.specs.Ways.{joined}
use Rattle.prairie_tests.proofs.ways.joined.Given as goal

abbrev pub invariant-loop-cost : goal.invariant-loop-cost
invariant-loop-cost l = joined l.kind l.total (drop l.cost-index l.costs) ≡ joined l.kind (min l.from cap) l.costs
