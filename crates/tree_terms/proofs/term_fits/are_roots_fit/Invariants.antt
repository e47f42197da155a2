use Rattle.tree_terms.proofs.TermFitLaws.{SaysRest}
use Rattle.tree_terms.proofs.term_fits.are_roots_fit.Given as goal

-- what the rest says is what all say
abbrev pub invariant-loop-stream : goal.invariant-loop-stream
invariant-loop-stream l = SaysRest l.layout l.terms l.streams l.stream-index
