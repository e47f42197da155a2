use Rattle.std.proofs.Common.{subst, sym}
use Rattle.rule_ast.specs.Seen.{seen_expr}
use Rattle.action_eval.specs.Machine.{StepsFrom}
use Rattle.action_eval.specs.SeenMachine.{seen_machine, seen_task, seen_within}
use Rattle.action_eval.specs.declared.machine.Task.{Task}
use Rattle.action_eval.proofs.StepLaws.{on-ok, turn-begun}
use Rattle.action_eval.proofs.stepping.step.Goals as goal

pub returns-in-Turn : goal.returns-in-Turn
returns-in-Turn c =
    let w = seen_within c.args.within.now in
    let s = seen_machine c.args.machine.now in
    let s' = seen_machine c.enter.new.self in
    on-ok c.enter.result c.enter.ensures
    (λ same.
    subst (λ (t : Task). StepsFrom w (seen_task t) s s') (sym c.in-Turn.is)
    (turn-begun w s s' c.in-Turn.name.now c.in-Turn.member (seen_expr c.in-Turn.body.now) same))
