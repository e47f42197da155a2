use Rattle.rule_lex.proofs.LexesLaws.{only, none, one_fault}
use Rattle.rule_lex.proofs.SpacedLaws.{spaced_lexes}
use Rattle.rule_lex.proofs.laws.token_laws.Goals as goal

pub returns-clause-one_list : goal.returns-clause-one_list
returns-clause-one_list c text ts us l m = only text us m ts l

pub returns-clause-one_fault : goal.returns-clause-one_fault
returns-clause-one_fault c = one_fault

pub returns-clause-never_both : goal.returns-clause-never_both
returns-clause-never_both c text ts e l r = none text e r ts l

pub returns-clause-spaced : goal.returns-clause-spaced
returns-clause-spaced c = spaced_lexes
