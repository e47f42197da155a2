-- How each kind of cost form is seen.
use Rattle.std.proofs.Common.{◌≡◌, ℕ, ap, sym, ◌∙◌}
use Rattle.action_eval.specs.Cost.{CostForm, number, input, sum, greater, lesser, multiple}
use Rattle.action_eval.specs.SeenForms.{seen_form, form_level}
use Rattle.action_eval.specs.declared.cost_forms.form.CostForm as rust
use Rattle.action_eval.specs.declared.cost_forms.form.CostForm.TheVariants as variant
use Rattle.action_eval.specs.declared.cost_forms.form.CostForm.TheOpen.{CostForm-F}
use Rattle.action_eval.specs.declared.cost_forms.form.CostForm.TheFolds.{fold-roll-CostForm}

pub seen_number : (n : ℕ) → seen_form (variant.Number n) ≡ number n
seen_number n = ap seen_form (sym (variant.rolls-Number n)) ∙ fold-roll-CostForm CostForm form_level (CostForm-F.Number n)

pub seen_input : (i : ℕ) → seen_form (variant.Input i) ≡ input i
seen_input i = ap seen_form (sym (variant.rolls-Input i)) ∙ fold-roll-CostForm CostForm form_level (CostForm-F.Input i)

pub seen_sum : (a b : rust.CostForm) → seen_form (variant.Sum a b) ≡ sum (seen_form a) (seen_form b)
seen_sum a b = ap seen_form (sym (variant.rolls-Sum a b)) ∙ fold-roll-CostForm CostForm form_level (CostForm-F.Sum a b)

pub seen_greater : (a b : rust.CostForm) → seen_form (variant.Greater a b) ≡ greater (seen_form a) (seen_form b)
seen_greater a b = ap seen_form (sym (variant.rolls-Greater a b)) ∙ fold-roll-CostForm CostForm form_level (CostForm-F.Greater a b)

pub seen_lesser : (a b : rust.CostForm) → seen_form (variant.Lesser a b) ≡ lesser (seen_form a) (seen_form b)
seen_lesser a b = ap seen_form (sym (variant.rolls-Lesser a b)) ∙ fold-roll-CostForm CostForm form_level (CostForm-F.Lesser a b)

pub seen_multiple : (n : ℕ) (a : rust.CostForm) → seen_form (variant.Multiple n a) ≡ multiple n (seen_form a)
seen_multiple n a = ap seen_form (sym (variant.rolls-Multiple n a)) ∙ fold-roll-CostForm CostForm form_level (CostForm-F.Multiple n a)
