use Rattle.std.proofs.Common.{ap, ◌∙◌, subst}
use Rattle.derivation.specs.Table.{AreEarlier}
use Rattle.memo.proofs.ForestLaws.{one_class_equates, proved_line}
use Rattle.memo.proofs.memo.Memo.equated.Goals as goal

pub returns-clause-lines : goal.returns-clause-lines
returns-clause-lines g c = rw (← c.self.view_is) (λ i e is.
    proved_line c.self.inside.log.terms c.self.inside.log.lines c.self.inside.exprs.items c.self.inside.known.items (c.self.invariant (ap (λ v. v.spoilt) c.self.view_is ∙ c.requires)).memo.forest (subst AreEarlier c.terms.ensures c.sound.ensures.earlier) c.sound-2.ensures.derivation.there i e is.0)

pub returns-clause-classes : goal.returns-clause-classes
returns-clause-classes g c = rw (← c.self.view_is) (λ k e t u at h h'.
    one_class_equates c.self.inside.log.terms c.self.inside.log.lines c.self.inside.exprs.items c.self.inside.known.items (c.self.invariant (ap (λ v. v.spoilt) c.self.view_is ∙ c.requires)).memo.forest (subst AreEarlier c.terms.ensures c.sound.ensures.earlier) c.sound-2.ensures.derivation.there k e t u at h h')
