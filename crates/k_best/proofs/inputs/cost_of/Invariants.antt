use Rattle.std.proofs.Common.{◌≡◌, map, take}
use Rattle.k_best.specs.Lists.{cost_at}
use Rattle.k_best.proofs.inputs.cost_of.Given as goal

abbrev pub invariant-loop-at : goal.invariant-loop-at
invariant-loop-at g l = l.costs.items ≡ map (cost_at l.lists.solutions) (take l.at-index l.inputs)
