use Rattle.std.proofs.Common.{◌≡◌, take}
use Rattle.best_plan.specs.Tables.{known}
use Rattle.loop_plan.specs.Fallen.{places}
use Rattle.loop_plan.proofs.falls.places_of.Given as goal

abbrev pub invariant-loop-i : goal.invariant-loop-i
invariant-loop-i g l = l.found ≡ places (known l.table) (take l.i ((g.C.Choices.graph l.choices).alternative l.way.goal l.way.k).inputs)
