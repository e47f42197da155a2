use Rattle.std.proofs.Common.{ap, sym, ◌∙◌}
use Rattle.action_eval.specs.SeenMachine.{seen_machine, seen_within, seen_task}
use Rattle.action_eval.proofs.StepLaws.{run-on}
use Rattle.action_eval.proofs.evaluation.run.Goals as goal

pub loop-task-preserved : goal.loop-task-preserved
loop-task-preserved c =
    let one = run-on (seen_within c.args.within.now) (seen_machine c.loop-task.machine) (seen_machine c.pop_task.new.self) (seen_machine c.step.new.machine) (seen_task c.in-Some.task) c.in-Some.ensures.some c.in_ok-step.ensures in
    sym (ap (λ r. r.0) one) ∙ c.loop-task.invariant
