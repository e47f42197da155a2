use Rattle.std.proofs.Common.{heap_items, heap_len}
use Rattle.loop_plan.specs.Waiting.{AreLowered}
use Rattle.loop_plan.proofs.lowering.lower_all.Given as goal

abbrev pub invariant-loop-i : goal.invariant-loop-i
invariant-loop-i g l = AreLowered (g.C.Choices.graph l.choices) l.ways l.i l.fn.falls l.falls (heap_items l.fn.work) (heap_items l.work) (heap_len l.fn.work) (heap_len l.work)
