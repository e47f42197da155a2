use Rattle.prairie_top.proofs.ExistsLaws.{one_cost, one_exists}
use Rattle.prairie_top.proofs.LawLemmas.{one_answer, one_answer_text, complete, never_fails, never_unwritten}
use Rattle.prairie_top.proofs.OnlyLaws.{only_best}
use Rattle.prairie_top.proofs.laws.outcome_laws.Goals as goal

pub returns-clause-one_answer : goal.returns-clause-one_answer
returns-clause-one_answer c = one_answer (record { lists = c.token_laws.ensures.one_list; never = c.token_laws.ensures.never_both; catalogs = c.catalog_laws.ensures; rules = c.spelling_laws.ensures.rules; queries = c.spelling_laws.ensures.queries; words = c.meaning_laws.ensures })

pub returns-clause-one_text : goal.returns-clause-one_text
returns-clause-one_text c = one_answer_text

pub returns-clause-only_best : goal.returns-clause-only_best
returns-clause-only_best c = only_best

pub returns-clause-complete : goal.returns-clause-complete
returns-clause-complete c = complete (record { lists = c.token_laws.ensures.one_list; never = c.token_laws.ensures.never_both; catalogs = c.catalog_laws.ensures; rules = c.spelling_laws.ensures.rules; queries = c.spelling_laws.ensures.queries; words = c.meaning_laws.ensures })

pub returns-clause-sure : goal.returns-clause-sure
returns-clause-sure c = never_fails

pub returns-clause-written : goal.returns-clause-written
returns-clause-written c = never_unwritten

pub returns-clause-one_exists : goal.returns-clause-one_exists
returns-clause-one_exists c = one_exists

pub returns-clause-one_cost : goal.returns-clause-one_cost
returns-clause-one_cost c = one_cost
