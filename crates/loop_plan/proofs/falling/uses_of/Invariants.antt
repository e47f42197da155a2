use Rattle.std.proofs.Common.{◌≡◌, ℕ, ◌≤◌, ◌<◌, length, Some, Contains, slice_get}
use Rattle.loop_plan.specs.Reached.{inputs}
use Rattle.loop_plan.specs.Uses.{IsUses, uses_at}
use Rattle.loop_plan.proofs.falling.uses_of.Given as goal

abbrev pub invariant-loop-i : goal.invariant-loop-i
invariant-loop-i g l = record {
  room : (g.C.Choices.graph l.choices).goals ≤ length l.uses;
  is : IsUses (g.C.Choices.graph l.choices) l.ways l.i l.uses;
}

-- the alternative is listed for its inputs so far
abbrev pub invariant-loop-j : goal.invariant-loop-j
invariant-loop-j g l = record {
  room : (g.C.Choices.graph l.choices).goals ≤ length l.uses;
  is : IsUses (g.C.Choices.graph l.choices) l.ways l.i l.uses;
  listed : (n h : ℕ) → n < l.j → slice_get (inputs (g.C.Choices.graph l.choices) l.way) n ≡ Some h → Contains (uses_at l.uses h) l.way;
}
