use Rattle.std.proofs.Common.{ap, ◌∙◌}
use Rattle.std.specs.List.{list_all}
use Rattle.action_eval.specs.SeenEnv.{seen_env}
use Rattle.descriptor_types.specs.Descriptors.{fits}
use Rattle.pr_value.specs.Repeats.{are_distinct}
use Rattle.rule_ast.specs.Descs.{trule_descs}
use Rattle.rule_ast.specs.Seen.{seen_trule}
use Rattle.rule_ast.specs.SeenRules.{seen_rules}
use Rattle.rule_runs.specs.Runs.{trule_scope}
use Rattle.rule_runs.proofs.RunLaws.{as_many-here, prepared, trule-fits, trule-scoped, with-defaults}
use Rattle.rule_runs.proofs.trules.trule_env.Goals as goal

pub env_over-requires-clause-as_many : goal.env_over-requires-clause-as_many
env_over-requires-clause-as_many c =
    let r = seen_rules c.args.running.now.rules.now in
    let t = seen_trule c.args.rule.now in
    let s = c.args.slots.now in
    let descs = c.as_slice-2.ensures ∙ with-defaults r c.args.running.now.layout.now t s c.in_ok-descs.descs c.push_defaults.new.out c.args.right.now c.args.running.now.laid_out c.requires.right c.in_ok-descs.ensures c.in_ok-push_defaults.ensures in
    as_many-here (trule_descs t) c.as_slice.result.now _ c.as_slice-2.result.now (trule_scope r t s) (trule-scoped r t s c.requires.slots) (c.as_slice.ensures ∙ c.in_ok-names.ensures) descs

pub env_over-requires-clause-different : goal.env_over-requires-clause-different
env_over-requires-clause-different c = ap are_distinct (c.as_slice.ensures ∙ c.in_ok-names.ensures) ∙ c.requires.rule.different

pub env_over-requires-clause-fit : goal.env_over-requires-clause-fit
env_over-requires-clause-fit c =
    let r = seen_rules c.args.running.now.rules.now in
    let t = seen_trule c.args.rule.now in
    let s = c.args.slots.now in
    let descs = c.as_slice-2.ensures ∙ with-defaults r c.args.running.now.layout.now t s c.in_ok-descs.descs c.push_defaults.new.out c.args.right.now c.args.running.now.laid_out c.requires.right c.in_ok-descs.ensures c.in_ok-push_defaults.ensures in
    ap (list_all (fits r.properties)) descs ∙ trule-fits r t s c.requires.slots

pub returns-clause-env : goal.returns-clause-env
returns-clause-env c =
    let r = seen_rules c.args.running.now.rules.now in
    let t = seen_trule c.args.rule.now in
    let s = c.args.slots.now in
    let descs = c.as_slice-2.ensures ∙ with-defaults r c.args.running.now.layout.now t s c.in_ok-descs.descs c.push_defaults.new.out c.args.right.now c.args.running.now.laid_out c.requires.right c.in_ok-descs.ensures c.in_ok-push_defaults.ensures in
    (prepared r (trule_descs t) c.as_slice.result.now _ c.as_slice-2.result.now (trule_scope r t s) (seen_env c.in_ok-env.env) (trule-scoped r t s c.requires.slots) (c.as_slice.ensures ∙ c.in_ok-names.ensures) descs c.in_ok-env.ensures.env c.in_ok-env.ensures.sound).is

pub returns-clause-ready : goal.returns-clause-ready
returns-clause-ready c =
    let r = seen_rules c.args.running.now.rules.now in
    let t = seen_trule c.args.rule.now in
    let s = c.args.slots.now in
    let descs = c.as_slice-2.ensures ∙ with-defaults r c.args.running.now.layout.now t s c.in_ok-descs.descs c.push_defaults.new.out c.args.right.now c.args.running.now.laid_out c.requires.right c.in_ok-descs.ensures c.in_ok-push_defaults.ensures in
    (prepared r (trule_descs t) c.as_slice.result.now _ c.as_slice-2.result.now (trule_scope r t s) (seen_env c.in_ok-env.env) (trule-scoped r t s c.requires.slots) (c.as_slice.ensures ∙ c.in_ok-names.ensures) descs c.in_ok-env.ensures.env c.in_ok-env.ensures.sound).ready
