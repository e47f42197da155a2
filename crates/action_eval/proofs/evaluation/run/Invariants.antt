use Rattle.std.proofs.Common.{◌≡◌}
use Rattle.action_eval.specs.Machine.{ended_from}
use Rattle.action_eval.specs.SeenMachine.{seen_machine, seen_within}
use Rattle.action_eval.proofs.evaluation.run.Given as goal

-- what is left to do ends with the same value
abbrev pub invariant-loop-task : goal.invariant-loop-task
invariant-loop-task l = (ended_from (seen_within l.within) (seen_machine l.machine)).0 ≡ (ended_from (seen_within l.within) (seen_machine l.initial.machine)).0

abbrev pub decreases-loop-task : goal.decreases-loop-task
decreases-loop-task l = (ended_from (seen_within l.within) (seen_machine l.machine)).1
