use Rattle.std.proofs.Common.{◌≡◌, ℕ, ◌+◌, ◌≤◌, ◌<◌, length, Some, slice_get}
use Rattle.pr_value.specs.Capped.{cap}
use Rattle.loop_plan.specs.Reached.{IsReached, Grows, bound, inputs}
use Rattle.loop_plan.proofs.reached.meet_inputs.Given as goal

-- the inputs so far were met
abbrev pub invariant-loop-i : goal.invariant-loop-i
invariant-loop-i g l = record {
  later : g.C.Choices.later l.fn.choices l.choices;
  reached : (n : ℕ) → n ≤ length l.fn.reached.ways → IsReached (g.C.Choices.graph l.fn.choices) l.fn.reached n → IsReached (g.C.Choices.graph l.choices) l.reached n;
  grows : Grows l.fn.reached l.reached;
  met : (j h : ℕ) → j < l.i → slice_get (inputs (g.C.Choices.graph l.fn.choices) l.way) j ≡ Some h → bound l.reached h ≡ cap + 1;
}
