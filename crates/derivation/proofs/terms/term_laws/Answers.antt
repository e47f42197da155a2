use Rattle.derivation.proofs.CodeLaws.{keeps_table}
use Rattle.derivation.proofs.terms.term_laws.Goals as goal

pub returns : goal.returns
returns g c = keeps_table c.equal_terms.ensures.one
