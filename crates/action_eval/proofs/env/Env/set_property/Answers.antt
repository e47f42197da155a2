use Rattle.std.proofs.Common.{List, sym, ap, ◌∙◌, arith}
use Rattle.std.specs.Prelude.{slice_set}
use Rattle.pr_value.specs.Symbols.{Symbol}
use Rattle.descriptor_types.specs.Descriptors.{Desc, with_value}
use Rattle.descriptor_types.proofs.PlaceLaws.{with_value-at, with_value-none}
use Rattle.action_eval.specs.Meaning.{desc_in, with_desc_in}
use Rattle.action_eval.specs.SeenEnv.{seen_env}
use Rattle.action_eval.proofs.DescLaws.{at_place, placed, missing}
use Rattle.action_eval.proofs.StatementLaws.{with_desc_in-same}
use Rattle.action_eval.proofs.env.Env.set_property.Goals as goal

pub index_mut-requires : goal.index_mut-requires
index_mut-requires c =
    let at = at_place c.as_slice.result.now c.args.desc.now c.in-Some.desc (sym c.in-Some.ensures) in
    omega (arith, at.within, c.as_slice.ensures.len)

pub returns : goal.returns
returns c =
    let env = seen_env c.args.self.now in
    let x = c.index_mut.result.now in
    let at = placed env.descs c.as_slice.result.now c.args.desc.now c.in-Some.desc c.as_slice.ensures.value c.in-Some.ensures in
    let same = ap (λ (y : Symbol × Desc). y.1) c.index_mut.ensures.value ∙ at.value x in
    let written = with_value env.layout c.args.property.now c.args.value (desc_in env.descs c.args.desc.now) in
    ap (λ (ds : List (Symbol × Desc)). record env { descs = ds })
    (ap (λ (e : Desc). slice_set env.descs c.in-Some.desc (x.0, e))
    (c.set_at.ensures ∙ sym (with_value-at env.layout c.args.property.now c.args.value x.1 c.in-Some-find.place (sym c.in-Some-find.ensures)) ∙ ap (with_value env.layout c.args.property.now c.args.value) same)
    ∙ ap (λ (y : Symbol × Desc). slice_set env.descs c.in-Some.desc (y.0, written)) c.index_mut.ensures.value ∙ sym (at.written written x))

pub returns-in_default : goal.returns-in_default
returns-in_default c =
    let env = seen_env c.args.self.now in
    let at = missing env.descs c.as_slice.result.now c.args.desc.now c.as_slice.ensures.value c.in_default.ensures in
    ap (λ (ds : List (Symbol × Desc)). record env { descs = ds }) (sym (at.written (with_value env.layout c.args.property.now c.args.value (desc_in env.descs c.args.desc.now))))

pub returns-in_default-find : goal.returns-in_default-find
returns-in_default-find c =
    let env = seen_env c.args.self.now in
    ap (λ (ds : List (Symbol × Desc)). record env { descs = ds })
    (sym (ap (with_desc_in env.descs c.args.desc.now) (with_value-none env.layout c.args.property.now c.args.value (desc_in env.descs c.args.desc.now) (sym c.in_default-find.ensures)) ∙ with_desc_in-same env.descs c.args.desc.now))
