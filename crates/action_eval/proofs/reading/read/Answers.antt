use Rattle.std.proofs.Common.{sym, ap, ◌∙◌}
use Rattle.descriptor_types.specs.Descriptors.{Layout, Desc, place_of, value_of}
use Rattle.action_eval.specs.Builtins.{at}
use Rattle.action_eval.specs.Meaning.{desc_in}
use Rattle.action_eval.specs.SeenEnv.{seen_env}
use Rattle.action_eval.proofs.KindLaws.{desc_in-unknown}
use Rattle.action_eval.proofs.ReadLaws.{value_of-place, value_of-nowhere, value_of-nothing}
use Rattle.action_eval.proofs.reading.read.Goals as goal

pub returns-in_default : goal.returns-in_default
returns-in_default c =
    let env = seen_env c.args.env.now in
    c.own.ensures ∙ sym (ap (value_of env.layout c.args.property.now) (desc_in-unknown env.descs c.args.desc.now c.in_default.ensures.none) ∙ value_of-nothing env.layout c.args.property.now)

pub returns-in_default-find : goal.returns-in_default-find
returns-in_default-find c =
    let env = seen_env c.args.env.now in
    c.own-in_default-find.ensures ∙ sym (value_of-nowhere env.layout c.args.property.now (desc_in env.descs c.args.desc.now) (ap (λ (l : Layout). place_of l c.args.property.now) (sym c.layout.ensures) ∙ sym c.in_default-find.ensures))

pub returns : goal.returns
returns c =
    let env = seen_env c.args.env.now in
    c.value_at.ensures ∙ ap (λ (d : Desc). at d c.in-Some-find.place) c.in-Some.ensures.some
    ∙ sym (value_of-place env.layout c.args.property.now (desc_in env.descs c.args.desc.now) c.in-Some-find.place (ap (λ (l : Layout). place_of l c.args.property.now) (sym c.layout.ensures) ∙ sym c.in-Some-find.ensures))
