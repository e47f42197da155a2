use Rattle.std.proofs.Common.{sym, ap, ◌∙◌, arith}
use Rattle.pr_value.specs.Symbols.{Symbol}
use Rattle.descriptor_types.specs.Descriptors.{Desc}
use Rattle.action_eval.proofs.DescLaws.{at_place, placed, missing}
use Rattle.action_eval.proofs.env.Env.desc.Goals as goal

pub index-requires : goal.index-requires
index-requires c =
    let at = at_place c.as_slice.result.now c.args.name.now c.in-Some.place (sym c.in-Some.ensures) in
    omega (arith, at.within, c.as_slice.ensures.len)

pub returns-in-Some-clause-some : goal.returns-in-Some-clause-some
returns-in-Some-clause-some c =
    let at = placed c.args.self.now.descs.items c.as_slice.result.now c.args.name.now c.in-Some.place c.as_slice.ensures.value c.in-Some.ensures in
    ap (λ (d : Symbol × Desc). d.1) c.index.ensures ∙ at.value c.index.result.now

pub returns-in-Some-clause-known : goal.returns-in-Some-clause-known
returns-in-Some-clause-known c = (placed c.args.self.now.descs.items c.as_slice.result.now c.args.name.now c.in-Some.place c.as_slice.ensures.value c.in-Some.ensures).known

pub returns-in-None-clause-none : goal.returns-in-None-clause-none
returns-in-None-clause-none c = (missing c.args.self.now.descs.items c.as_slice.result.now c.args.name.now c.as_slice.ensures.value c.in-None.ensures).unknown
