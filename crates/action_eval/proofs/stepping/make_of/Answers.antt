use Rattle.action_eval.specs.SeenMachine.{seen_machine}
use Rattle.action_eval.proofs.StepLaws.{evals-left}
use Rattle.action_eval.proofs.stepping.make_of.Goals as goal

pub loop-e-preserved : goal.loop-e-preserved
loop-e-preserved c =
    evals-left (seen_machine c.loop-e.machine) (seen_machine c.push_task-in-Some.new.self) _ c.loop-e.rest.now c.in-Some.before.now c.in-Some.e.now c.in-Some.ensures.cases.0 c.in_ok-push_task-2.ensures c.loop-e.invariant
