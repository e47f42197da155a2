use Rattle.action_eval.proofs.BindLaws.{sound-bound_in, bound_desc-last, names-bound_desc, bound_all-new}
use Rattle.action_eval.proofs.KindLaws.{fits-desc_in}
use Rattle.action_eval.proofs.StatementLaws.{has_kind-value_here}
use Rattle.action_eval.proofs.laws.env_laws.Goals as goal

pub returns-clause-soundly : goal.returns-clause-soundly
returns-clause-soundly c = sound-bound_in

pub returns-clause-last : goal.returns-clause-last
returns-clause-last c = bound_desc-last

pub returns-clause-in_place : goal.returns-clause-in_place
returns-clause-in_place c = names-bound_desc

pub returns-clause-in_order : goal.returns-clause-in_order
returns-clause-in_order c = bound_all-new

pub returns-clause-found : goal.returns-clause-found
returns-clause-found c = λ env name sound there. fits-desc_in env.layout env.descs name sound.descs there

pub returns-clause-kind : goal.returns-clause-kind
returns-clause-kind c = has_kind-value_here
