use Rattle.std.proofs.Common.{rules, ◌≡◌, ◌∙◌, List, length, ap, sym, subst}
use Rattle.derivation.proofs.StandsLaws.{keeps_of_take}
use Rattle.memo.specs.declared.expr.Expr.{Expr}
use Rattle.memo.specs.Forest.{IsForest}
use Rattle.memo.specs.Grew.{Begins}
use Rattle.memo.specs.Kept.{Indexes}
use Rattle.memo.proofs.KeepLaws.{forest_kept}
use Rattle.memo.proofs.memo.Memo.equate_on.Goals as goal

pub equate_in-requires-clause-forest : goal.equate_in-requires-clause-forest
equate_in-requires-clause-forest g c =
    let m = c.self.inside in
    let log = c.args.log.now in
    let begins = subst (λ v. Begins v.log log) (sym c.self.view_is) c.requires.begins in
    let copied : c.in_ok-known.known.items ≡ c.as_slice.result.now = search rules in
    let forest = (c.self.invariant (ap (λ v. v.spoilt) c.self.view_is ∙ c.requires.sound)).memo.forest in
    subst (λ es. IsForest log.terms log.lines es c.in_ok-known.known.items) (sym c.as_slice-2.ensures.value)
    (subst (λ ks. IsForest log.terms log.lines m.exprs.items ks) (sym (copied ∙ c.as_slice.ensures.value))
    (forest_kept m.log.terms log.terms m.log.lines log.lines m.exprs.items m.known.items (keeps_of_take m.log.terms log.terms begins.0) (keeps_of_take m.log.lines log.lines begins.1) forest))

pub equate_in-requires-clause-indexed : goal.equate_in-requires-clause-indexed
equate_in-requires-clause-indexed g c =
    let m = c.self.inside in
    subst (λ (es : List (Expr g.row.L.Denot)). Indexes m.index.entries es (length es)) (sym c.as_slice-2.ensures.value) (c.self.invariant (ap (λ v. v.spoilt) c.self.view_is ∙ c.requires.sound)).memo.indexed
