use Rattle.std.proofs.Common.{rules, ◌≡◌, ◌∙◌, slice_get, ap, sym, subst}
use Rattle.std.specs.List.{AllZip}
use Rattle.memo.specs.Forest.{IsKnownIn}
use Rattle.memo.proofs.adding.is_fit.Goals as goal

pub returns : goal.returns
returns g c = λ e.
    let label : c.term-term.result.now.label ≡ c.args.label.now = (let h = c.if-not-same.false in let s = c.same.ensures in search rules) in (
      c.term-term.result.now,
      ap (λ w. slice_get w c.args.tree) (sym c.terms.ensures) ∙ c.term-term.ensures,
      label,
      subst (λ ns. AllZip (IsKnownIn c.args.exprs.now c.args.known.now) ns c.args.classes.now) c.as_slice.ensures (c.are_in.ensures e),
    )
