use Rattle.rule_lex.proofs.StepLaws.{number_begins, number_fault}
use Rattle.rule_lex.proofs.classes.number_token.Goals as goal

pub returns-in-Some-clause-token : goal.returns-in-Some-clause-token
returns-in-Some-clause-token c =
    number_begins c.args.text.now c.digits_at.result.0.now c.digits_at.result.1.now c.in-Some.value c.digits_at.ensures c.requires c.in-Some.ensures

pub returns-in-None-clause-fault : goal.returns-in-None-clause-fault
returns-in-None-clause-fault c =
    number_fault c.args.text.now c.digits_at.result.0.now c.digits_at.result.1.now c.args.place c.digits_at.ensures c.requires c.in-None.ensures
