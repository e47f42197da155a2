use Rattle.std.proofs.Common.{◌∙◌, slice_get, ap, sym}
use Rattle.memo.proofs.LearnLaws.{key_made}
use Rattle.memo.proofs.learn.key_over.Goals as goal

pub returns : goal.returns
returns g c =
    let (t, at, is) = c.label.ensures in
    key_made c.args.log.now.terms c.args.exprs.now c.args.known.now c.args.n c.in_ok-inputs.inputs.items c.as_slice.result.now c.in_ok-classes.classes.items c.from_vec.result c.in_ok-label.label
    c.in_ok-inputs.ensures c.as_slice.ensures.value c.in_ok-classes.ensures c.from_vec.ensures t (ap (λ w. slice_get w c.args.n) (sym c.terms.ensures) ∙ at) (c.in_ok-label.ensures ∙ is)
