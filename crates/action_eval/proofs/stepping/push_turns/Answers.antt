use Rattle.rule_ast.specs.Seen.{seen_expr}
use Rattle.action_eval.specs.SeenMachine.{seen_machine}
use Rattle.action_eval.proofs.StepLaws.{turns-left}
use Rattle.action_eval.proofs.stepping.push_turns.Goals as goal

pub loop-member-preserved : goal.loop-member-preserved
loop-member-preserved c =
    turns-left c.args.name.now (seen_expr c.args.body.now) (seen_machine c.loop-member.machine) (seen_machine c.push_task.new.self) _ c.loop-member.rest.now c.in-Some.before.now c.in-Some.member.now c.in_ok-copy.field-0 c.in-Some.ensures.cases.0 c.in_ok-copy.ensures c.in_ok-push_task.ensures
    c.loop-member.invariant
