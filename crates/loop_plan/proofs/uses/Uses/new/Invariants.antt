use Rattle.std.proofs.Common.{◌≡◌, ℕ, [], length}
use Rattle.loop_plan.specs.Uses.{uses_at}
use Rattle.loop_plan.proofs.uses.Uses.new.Given as goal

abbrev pub invariant-loop-goal : goal.invariant-loop-goal
invariant-loop-goal l = record {
  long : length l.lists.items ≡ l.goal;
  empty : (h : ℕ) → uses_at l.lists.items h ≡ [];
}
