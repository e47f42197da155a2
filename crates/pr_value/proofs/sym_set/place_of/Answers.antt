use Rattle.pr_value.proofs.SearchLaws.{found, contained, missing}
use Rattle.pr_value.proofs.sym_set.place_of.Goals as goal

pub returns-clause-found : goal.returns-clause-found
returns-clause-found c = found _ _ _ c.binary_search.ensures.bound c.binary_search.ensures.position

pub returns-clause-one : goal.returns-clause-one
returns-clause-one c = contained _ _ _ c.binary_search.ensures.bound c.binary_search.ensures.position

pub returns-clause-missing : goal.returns-clause-missing
returns-clause-missing c = missing _ _ _ c.requires c.binary_search.ensures.bound c.binary_search.ensures.position
