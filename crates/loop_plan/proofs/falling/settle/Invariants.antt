use Rattle.std.proofs.Common.{◌≡◌, ◌+◌, ◌*◌, ◌⊎◌, Contains, heap_items, heap_len}
use Rattle.best_plan.specs.Moves.{IsAlternative}
use Rattle.best_plan.specs.Tables.{known}
use Rattle.loop_plan.specs.Fallen.{IsHeld, value}
use Rattle.loop_plan.specs.Waiting.{IsSeen, total}
use Rattle.loop_plan.specs.declared.way.Way.{Way}
use Rattle.loop_plan.proofs.falling.settle.Given as goal

abbrev pub invariant-loop-fell : goal.invariant-loop-fell
invariant-loop-fell g l = record {
  held : IsHeld (g.C.Choices.graph l.choices) l.fn.reached.root l.falls;
  seen : (w : Way) → IsAlternative (g.C.Choices.graph l.choices) w.goal w.k → IsSeen (g.C.Choices.graph l.choices) (known l.falls.entries) (heap_items l.work) (λ v. ⊥) w;
  listed : (w : Way) → IsAlternative (g.C.Choices.graph l.choices) w.goal w.k → (value l.falls w.goal ≡ 0) ⊎ Contains l.fn.reached.ways w;
}

-- a note is taken, or values fall
abbrev pub decreases-loop-fell : goal.decreases-loop-fell
decreases-loop-fell g l = 2 * total l.falls.entries + heap_len l.work
