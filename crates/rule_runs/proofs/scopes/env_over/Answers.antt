use Rattle.std.proofs.Common.{ap, sym, ◌∙◌, subst, arith}
use Rattle.action_eval.specs.Environments.{Env, IsSound, bound_in}
use Rattle.action_eval.specs.SeenEnv.{seen_env}
use Rattle.descriptor_types.specs.Descriptors.{Desc}
use Rattle.rule_runs.specs.Runs.{Scope, env_over}
use Rattle.rule_ast.specs.SeenRules.{seen_rules}
use Rattle.rule_runs.proofs.ScopeLaws.{bound_next, bound_whole, sound_over}
use Rattle.rule_runs.proofs.scopes.env_over.Goals as goal

pub loop-i-preserved : goal.loop-i-preserved
loop-i-preserved c =
    let r = seen_rules c.args.rules.now in
    let names = c.args.names.now in
    let descs = c.args.descs.now in
    let name = c.index-names-i.result in
    let desc = c.index-descs-i.result in
    c.in_ok-bind.ensures.ok
    ∙ (ap (λ (d : Desc). bound_in name d (seen_env c.loop-i.env)) c.in_ok-desc.ensures
    ∙ (ap (λ (e : Env). bound_in name desc e) c.loop-i.invariant
    ∙ ap (λ (s : Scope). env_over r s) (bound_next names descs c.loop-i.i name desc c.loop-i-test.true c.requires.as_many c.index-names-i.is c.index-descs-i.is)))

pub returns-clause-env : goal.returns-clause-env
returns-clause-env c =
    let r = seen_rules c.args.rules.now in
    c.loop-i.invariant
    ∙ ap (λ (s : Scope). env_over r s) (bound_whole c.args.names.now c.args.descs.now c.loop-i.i (omega (arith, c.loop-i-test.false)) c.requires.as_many c.requires.different)

pub returns-clause-sound : goal.returns-clause-sound
returns-clause-sound c =
    let r = seen_rules c.args.rules.now in
    subst (λ (e : Env). IsSound e)
    (sym (c.loop-i.invariant ∙ ap (λ (s : Scope). env_over r s) (bound_whole c.args.names.now c.args.descs.now c.loop-i.i (omega (arith, c.loop-i-test.false)) c.requires.as_many c.requires.different)))
    (sound_over r c.args.names.now c.args.descs.now c.requires.helpers c.requires.fit)
