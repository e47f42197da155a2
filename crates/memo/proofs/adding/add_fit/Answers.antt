use Rattle.std.proofs.Common.{◌<◌, ◌∙◌, [], List, Some, length, slice_get, ◌≡◌, refl, ap, sym, subst, inl}
use Rattle.std.specs.Prelude.{All}
use Rattle.memo.specs.declared.expr.Expr.{Expr}
use Rattle.memo.specs.Adding.{IsFit, IsKeyIn}
use Rattle.memo.specs.Index.{Enters}
use Rattle.memo.specs.Kept.{IsMemo}
use Rattle.memo.proofs.AddLaws.{fit_there, fit_key, found_there, found_alike, class_of, put_all}
use Rattle.memo.proofs.adding.add_fit.Goals as goal

pub key_in-requires : goal.key_in-requires
key_in-requires g c =
    subst (λ (es : List (Expr g.row.L.Denot)). All (λ i. i < length es) c.args.classes.now) (sym c.as_slice.ensures.value) (fit_there c.args.log.now.terms c.args.log.now.lines c.args.exprs.now.items c.args.known.now.items c.requires.kept.forest c.args.tree c.args.label c.args.classes.now c.requires.fit)

pub put-requires-clause-fit : goal.put-requires-clause-fit
put-requires-clause-fit g c =
    subst (λ ns. IsFit c.args.log.now.terms c.args.exprs.now.items c.args.known.now.items c.args.tree c.args.label ns) (sym (c.in_ok-inputs.ensures ∙ c.as_slice-2.ensures))
    (fit_key c.args.log.now.terms c.args.log.now.lines c.args.exprs.now.items c.args.known.now.items c.requires.kept.forest c.args.label c.args.classes.now c.in_ok-key.key (subst (λ es. IsKeyIn es c.args.label c.args.classes.now c.in_ok-key.key) c.as_slice.ensures.value c.in_ok-key.ensures) c.args.tree c.requires.fit)

pub expr_get-e-requires : goal.expr_get-e-requires
expr_get-e-requires g c =
    subst (λ (es : List (Expr g.row.L.Denot)). c.in-Some.f < length es) (sym c.as_slice-in-Some.ensures.value)
    (found_there c.args.log.now.terms c.args.log.now.lines c.args.exprs.now.items c.args.known.now.items c.requires.kept.forest c.args.label c.args.classes.now c.in_ok-key.key (subst (λ es. IsKeyIn es c.args.label c.args.classes.now c.in_ok-key.key) c.as_slice.ensures.value c.in_ok-key.ensures) c.args.index.now.entries [] c.requires.kept.indexed c.in-Some.f (subst (λ r. Enters c.args.index.now.entries c.enter.new.index.entries c.in_ok-key.key c.len-i.result r) c.in-Some.is c.in_ok-found.ensures).1)

pub returns-in_ok-put-in-None-clause-kept : goal.returns-in_ok-put-in-None-clause-kept
returns-in_ok-put-in-None-clause-kept g c =
    (put_all c.args.log.now.terms c.put.new.log.terms c.args.log.now.lines c.put.new.log.lines c.args.exprs.now.items c.put.new.exprs.items c.args.known.now.items c.put.new.known.items c.args.index.now.entries c.enter.new.index.entries
    c.args.label c.args.classes.now c.in_ok-inputs.inputs c.in_ok-key.key c.args.line c.args.tree c.len-i.result c.requires.kept (subst (λ es. IsKeyIn es c.args.label c.args.classes.now c.in_ok-key.key) c.as_slice.ensures.value c.in_ok-key.ensures)
    (c.in_ok-inputs.ensures ∙ c.as_slice-2.ensures) (c.len-i.ensures ∙ sym c.as_slice.ensures.len ∙ ap (λ w. length w) c.as_slice.ensures.value) (subst (λ r. Enters c.args.index.now.entries c.enter.new.index.entries c.in_ok-key.key c.len-i.result r) c.in-None.is c.in_ok-found.ensures) c.in_ok-put-in-None.ensures.put c.in_ok-put-in-None.ensures.forest).0

pub returns-in_ok-put-in-None-clause-added : goal.returns-in_ok-put-in-None-clause-added
returns-in_ok-put-in-None-clause-added g c =
    (put_all c.args.log.now.terms c.put.new.log.terms c.args.log.now.lines c.put.new.log.lines c.args.exprs.now.items c.put.new.exprs.items c.args.known.now.items c.put.new.known.items c.args.index.now.entries c.enter.new.index.entries
    c.args.label c.args.classes.now c.in_ok-inputs.inputs c.in_ok-key.key c.args.line c.args.tree c.len-i.result c.requires.kept (subst (λ es. IsKeyIn es c.args.label c.args.classes.now c.in_ok-key.key) c.as_slice.ensures.value c.in_ok-key.ensures)
    (c.in_ok-inputs.ensures ∙ c.as_slice-2.ensures) (c.len-i.ensures ∙ sym c.as_slice.ensures.len ∙ ap (λ w. length w) c.as_slice.ensures.value) (subst (λ r. Enters c.args.index.now.entries c.enter.new.index.entries c.in_ok-key.key c.len-i.result r) c.in-None.is c.in_ok-found.ensures) c.in_ok-put-in-None.ensures.put c.in_ok-put-in-None.ensures.forest).1

pub returns-in-Some-clause-kept : goal.returns-in-Some-clause-kept
returns-in-Some-clause-kept g c = subst (λ w. IsMemo c.args.log.now.terms c.args.log.now.lines c.args.exprs.now.items c.args.known.now.items w []) (sym (subst (λ r. Enters c.args.index.now.entries c.enter.new.index.entries c.in_ok-key.key c.len-i.result r) c.in-Some.is c.in_ok-found.ensures).0) c.requires.kept

pub returns-in-Some-clause-added : goal.returns-in-Some-clause-added
returns-in-Some-clause-added g c =
    let at : slice_get c.args.exprs.now.items c.in-Some.f ≡ Some c.expr_get-e.result.now = ap (λ w. slice_get w c.in-Some.f) (sym c.as_slice-in-Some.ensures.value) ∙ c.expr_get-e.ensures in
    inl (
      refl,
      (
        c.in-Some.f,
        found_alike c.args.log.now.terms c.args.log.now.lines c.args.exprs.now.items c.args.known.now.items c.requires.kept.forest c.args.label c.args.classes.now c.in_ok-key.key (subst (λ es. IsKeyIn es c.args.label c.args.classes.now c.in_ok-key.key) c.as_slice.ensures.value c.in_ok-key.ensures) c.args.index.now.entries [] c.requires.kept.indexed c.in-Some.f (subst (λ r. Enters c.args.index.now.entries c.enter.new.index.entries c.in_ok-key.key c.len-i.result r) c.in-Some.is c.in_ok-found.ensures).1,
        class_of c.args.log.now.terms c.args.log.now.lines c.args.exprs.now.items c.args.known.now.items c.requires.kept.forest c.in-Some.f c.expr_get-e.result.now at,
      ),
    )
