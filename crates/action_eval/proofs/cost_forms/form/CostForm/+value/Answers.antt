use Rattle.std.proofs.Common.{ap, sym, ◌∙◌}
use Rattle.action_eval.specs.Cost.{cost_of}
use Rattle.action_eval.specs.SeenForms.{seen_form}
use Rattle.action_eval.proofs.CostLaws.{rises_to, capped_later}
use Rattle.action_eval.proofs.SeenFormLaws.{seen_input, seen_multiple}
use Rattle.action_eval.proofs.cost_forms.form.CostForm.+value.Goals as goal

pub returns-in-Input-clause-never_falls : goal.returns-in-Input-clause-never_falls
returns-in-Input-clause-never_falls t c =
    let seen = ap seen_form c.in-Input.is ∙ seen_input c.in-Input.place in
    rises_to (seen_form c.args.self.now) c.args.inputs.now _ (sym (ap (λ f. cost_of f c.args.inputs.now) seen))

pub returns-in-Multiple-clause-never_falls : goal.returns-in-Multiple-clause-never_falls
returns-in-Multiple-clause-never_falls t c =
    let seen = ap seen_form c.in-Multiple.is ∙ seen_multiple c.in-Multiple.number c.in-Multiple.a in
    let part = c.value-in-Multiple.ensures.value ∙ ap (λ f. cost_of (seen_form f) c.args.inputs.now) c.get-in-Multiple.ensures in
    let product = c.min-in-Multiple.ensures ∙ capped_later _ _ _ c.saturating_mul.ensures part in
    rises_to (seen_form c.args.self.now) c.args.inputs.now _ (product ∙ sym (ap (λ f. cost_of f c.args.inputs.now) seen))
