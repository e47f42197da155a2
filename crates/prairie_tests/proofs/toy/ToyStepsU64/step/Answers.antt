use Rattle.std.proofs.Common.{ℕ, List, Some, refl, ap, sym, ◌∙◌, subst}
use Rattle.derivation.specs.Table.{term}
use Rattle.derivation.specs.Terms.{GivesStep}
use Rattle.derivation.specs.declared.terms.Term.{Term}
use Rattle.prairie_tests.specs.Toy.{toy_step}
use Rattle.prairie_tests.proofs.ToyLaws.{no_step, gives, some_is}
use Rattle.prairie_tests.proofs.toy.ToyStepsU64.step.Goals as goal

pub returns-then-label-ne1-clause-made : goal.returns-then-label-ne1-clause-made
returns-then-label-ne1-clause-made c =
    (no_step c.args.terms.now c.args.node c.args.rule c.label.ensures.0 (c.label.ensures.1) (λ e. c.if-label-ne1.true (c.label.ensures.2 ∙ e)), refl)

pub returns-clause-made : goal.returns-clause-made
returns-clause-made c =
    let t = c.label.ensures.0 in
    let same = some_is c.inputs.ensures.0 t (sym (c.inputs.ensures.1) ∙ c.label.ensures.1) in
    let inputs = c.as_slice.ensures.value ∙ c.in_ok-inputs.ensures.items ∙ (c.inputs.ensures.2 ∙ ap (λ (x : Term ℕ). x.inputs) same) in
    let made = c.in_ok-made.ensures.at ∙ ap (λ (xs : List ℕ). Some (term 2 xs)) inputs in
    subst (λ (r : ℕ). GivesStep toy_step r c.args.node c.args.terms.now c.in_ok-made.made c.add.new.self) (sym c.if-rule-ne0.false)
    (gives c.args.terms.now c.add.new.self c.args.node c.in_ok-made.made t c.sound.ensures.earlier c.requires (c.label.ensures.1) (sym (c.label.ensures.2) ∙ c.if-label-ne1.false) c.in_ok-made.ensures.kept made)
