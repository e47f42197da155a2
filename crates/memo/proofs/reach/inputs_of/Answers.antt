use Rattle.std.proofs.Common.{rules, ◌≡◌, slice_get, ap, sym, ◌∙◌}
use Rattle.memo.proofs.reach.inputs_of.Goals as goal

pub returns : goal.returns
returns g c =
    let t = c.inputs-inputs.ensures in
    let copied : c.in_ok-copy.copy.items ≡ c.inputs-inputs.result.now = search rules in
    (t.0, ap (λ w. slice_get w c.args.n) (sym c.terms.ensures) ∙ t.1, copied ∙ t.2)
