use Rattle.std.proofs.Common.{◌∷◌, ◌++◌, [], sym, ap, ◌∙◌, arith, List}
use Rattle.std.specs.Prelude.{slice_set}
use Rattle.pr_value.specs.Symbols.{Symbol}
use Rattle.descriptor_types.specs.Descriptors.{Desc}
use Rattle.action_eval.specs.SeenEnv.{seen_env}
use Rattle.action_eval.proofs.DescLaws.{at_place, placed, missing}
use Rattle.action_eval.proofs.env.Env.bind.Goals as goal

pub index_mut-requires : goal.index_mut-requires
index_mut-requires c =
    let at = at_place c.as_slice.result.now c.args.name.now c.in-Some.place (sym c.in-Some.ensures) in
    omega (arith, at.within, c.as_slice.ensures.len)

pub returns-in-Some-clause-ok : goal.returns-in-Some-clause-ok
returns-in-Some-clause-ok c =
    let at = placed c.args.self.now.descs.items c.as_slice.result.now c.args.name.now c.in-Some.place c.as_slice.ensures.value c.in-Some.ensures in
    ap (λ (ds : List (Symbol × Desc)). record (seen_env c.args.self.now) { descs = ds })
    (ap (λ (x : Symbol × Desc). slice_set c.args.self.now.descs.items c.in-Some.place (x.0, c.args.d)) c.index_mut.ensures.value ∙ sym (at.bound c.args.d c.index_mut.result.now))

pub returns-in_ok-push-in-None-clause-ok : goal.returns-in_ok-push-in-None-clause-ok
returns-in_ok-push-in-None-clause-ok c =
    let at = missing c.args.self.now.descs.items c.as_slice.result.now c.args.name.now c.as_slice.ensures.value c.in-None.ensures in
    ap (λ (ds : List (Symbol × Desc)). record (seen_env c.args.self.now) { descs = ds })
    (c.in_ok-push-in-None.ensures.items ∙ ap (λ (s : Symbol). c.args.self.now.descs.items ++ (s, c.args.d) ∷ []) c.in_ok-name-in-None.ensures ∙ sym (at.bound c.args.d))
