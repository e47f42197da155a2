use Rattle.std.proofs.Common.{◌∙◌, ap, sym}
use Rattle.descriptor_types.specs.Descriptors.{fits}
use Rattle.tree_terms.proofs.TermFitLaws.{root-fits}
use Rattle.tree_terms.proofs.StandLaws.{not_there}
use Rattle.tree_terms.proofs.term_fits.is_root_fit.Goals as goal

pub returns-in-Some : goal.returns-in-Some
returns-in-Some c =
    λ u h. c.fits.ensures ∙ (ap (fits c.args.layout.now) c.label_desc.ensures ∙ root-fits c.args.layout.now c.args.terms.now c.args.node c.in-Some.term.now u (sym c.in-Some.ensures) h)

pub returns-in-None : goal.returns-in-None
returns-in-None c = λ u h. absurd (not_there c.args.terms.now c.args.node u (sym c.in-None.ensures) h)
