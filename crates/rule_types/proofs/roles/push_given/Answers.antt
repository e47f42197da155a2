use Rattle.rule_types.proofs.GivenLaws.{given-pushed}
use Rattle.rule_types.proofs.roles.push_given.Goals as goal

pub returns-in_ok-push-in-Set : goal.returns-in_ok-push-in-Set
returns-in_ok-push-in-Set c = λ p.
    given-pushed c.args.inputs.now c.args.out.now.items _ c.args.s.now c.in-Set.desc c.in-Set.property _ p c.in-Set.value c.contains.result c.in-Set.is c.contains.ensures c.if-contains.true c.in_ok-copy-in-Set.ensures c.in_ok-push-in-Set.ensures.items
