use Rattle.std.proofs.Common.{sym, ap, ◌∙◌, add-one}
use Rattle.std.specs.Str.{bytes_eq}
use Rattle.pr_value.specs.Symbols.{Symbol}
use Rattle.descriptor_types.specs.Descriptors.{Desc}
use Rattle.action_eval.proofs.DescLaws.{place-found, place-passed}
use Rattle.action_eval.proofs.env.place_of.Goals as goal

pub returns-then-eq : goal.returns-then-eq
returns-then-eq c =
    sym
    (place-found c.args.descs.now c.args.name.now c.loop-i.i c.index-descs-i.result c.loop-i.invariant c.loop-i-test.true
    (ap (λ (d : Symbol × Desc). bytes_eq d.0 c.args.name.now) (sym c.index-descs-i.is) ∙ sym c.eq.ensures ∙ c.if-eq.true))

pub loop-i-preserved : goal.loop-i-preserved
loop-i-preserved c =
    rw add-one
    (place-passed c.args.descs.now c.args.name.now c.loop-i.i c.index-descs-i.result c.loop-i.invariant c.loop-i-test.true
    (ap (λ (d : Symbol × Desc). bytes_eq d.0 c.args.name.now) (sym c.index-descs-i.is) ∙ sym c.eq.ensures ∙ c.if-eq.false))
