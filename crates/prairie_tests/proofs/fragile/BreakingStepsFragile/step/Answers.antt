use Rattle.std.proofs.Common.{ℕ, List, Some, ◌≡◌, refl, ap, sym, ◌∙◌, subst}
use Rattle.derivation.specs.Table.{term}
use Rattle.derivation.specs.Terms.{GivesStep}
use Rattle.derivation.specs.declared.terms.Term.{Term}
use Rattle.prairie_tests.specs.declared.fragile.Fragile.{Fragile}
use Rattle.prairie_tests.specs.Fragile.{fragile_step, labelled}
use Rattle.prairie_tests.proofs.FragileLaws.{no_step, gives, some_is}
use Rattle.prairie_tests.proofs.fragile.BreakingStepsFragile.step.Goals as goal

pub returns-then-label-ne1-clause-made : goal.returns-then-label-ne1-clause-made
returns-then-label-ne1-clause-made c =
    (no_step c.args.terms.now c.args.node c.args._rule c.label.ensures.0 (c.label.ensures.1) (λ e. c.if-label-ne1.true (ap (λ (y : Fragile). y.value) c.label.ensures.2 ∙ e)), refl)

pub returns-clause-made : goal.returns-clause-made
returns-clause-made c =
    let t = c.label.ensures.0 in
    let same = some_is c.inputs.ensures.0 t (sym (c.inputs.ensures.1) ∙ c.label.ensures.1) in
    let inputs = c.as_slice.ensures.value ∙ c.in_ok-inputs.ensures.items ∙ (c.inputs.ensures.2 ∙ ap (λ (x : Term Fragile). x.inputs) same) in
    let made = c.in_ok-made.ensures.at ∙ ap (λ (xs : List ℕ). Some (term (labelled 100) xs)) inputs in
    gives c.args._rule c.args.terms.now c.add.new.self c.args.node c.in_ok-made.made t c.sound.ensures.earlier c.requires (c.label.ensures.1) (ap (λ (y : Fragile). y.value) (sym (c.label.ensures.2)) ∙ c.if-label-ne1.false) c.in_ok-made.ensures.kept made
