use Rattle.rule_types.proofs.GivenLaws.{root-pushed}
use Rattle.rule_types.proofs.roles.push_enforcer.Goals as goal

pub returns-in_ok-push : goal.returns-in_ok-push
returns-in_ok-push c = λ op.
    root-pushed c.args.rule.now c.args.out.now.items _ _ op c.is_null.result c.is_null.ensures c.if-is_null.true c.in_ok-copy.ensures c.in_ok-push.ensures.items
