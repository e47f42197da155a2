use Rattle.std.proofs.Common.{◌≡◌, ◌+◌, ◌-◌, ◌≤◌, length}
use Rattle.pr_value.specs.Capped.{cap}
use Rattle.loop_plan.specs.Reached.{IsReached, bound}
use Rattle.loop_plan.proofs.reached.reach.Given as goal

-- the inputs of the alternatives so far were met
abbrev pub invariant-loop-next : goal.invariant-loop-next
invariant-loop-next g l = record {
  later : g.C.Choices.later l.fn.choices l.choices;
  few : l.next ≤ length l.reached.ways;
  reached : IsReached (g.C.Choices.graph l.choices) l.reached l.next;
  root : l.reached.root ≡ l.root;
  met : bound l.reached l.root ≡ cap + 1;
}

-- no list is longer than a number of 64 bits
abbrev pub decreases-loop-next : goal.decreases-loop-next
decreases-loop-next g l = 18_446_744_073_709_551_616 - l.next
