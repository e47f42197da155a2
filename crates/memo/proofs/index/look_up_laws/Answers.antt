use Rattle.memo.proofs.IndexLaws.{looks_up}
use Rattle.memo.proofs.index.look_up_laws.Goals as goal

pub returns : goal.returns
returns g c = looks_up c.equal_terms.ensures.one c.equal_terms.ensures.same
