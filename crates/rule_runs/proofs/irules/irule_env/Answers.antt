use Rattle.std.proofs.Common.{ap, ◌∙◌}
use Rattle.std.specs.List.{list_all}
use Rattle.action_eval.specs.SeenEnv.{seen_env}
use Rattle.descriptor_types.specs.Descriptors.{fits}
use Rattle.pr_value.specs.Repeats.{are_distinct}
use Rattle.rule_ast.specs.Descs.{irule_descs}
use Rattle.rule_ast.specs.Seen.{seen_irule}
use Rattle.rule_ast.specs.SeenRules.{seen_rules}
use Rattle.rule_runs.specs.Runs.{irule_scope}
use Rattle.rule_runs.proofs.AskedLaws.{begins, irule-descs, irule-fits, irule-scoped, irule_slots}
use Rattle.rule_runs.proofs.RunLaws.{as_many-here, prepared}
use Rattle.rule_runs.proofs.irules.irule_env.Goals as goal

pub env_over-requires-clause-as_many : goal.env_over-requires-clause-as_many
env_over-requires-clause-as_many c =
    let r = seen_rules c.args.running.now.rules.now in
    let i = seen_irule c.args.rule.now in
    let s = c.args.slots.now in
    let descs = c.as_slice-3.ensures ∙ irule-descs s c.in_ok-descs.descs c.push_copies.new.out c.push.new.self c.as_slice.result.now c.in_ok-root.root c.in_ok-descs.ensures c.as_slice.ensures c.in_ok-push_copies.ensures c.in_ok-root.ensures c.in_ok-push.ensures.ok in
    as_many-here (irule_descs i) c.as_slice-2.result.now (irule_slots s) c.as_slice-3.result.now (irule_scope i s) (irule-scoped r i s c.requires.rule c.requires.slots) (c.as_slice-2.ensures ∙ c.in_ok-names.ensures) descs

pub env_over-requires-clause-different : goal.env_over-requires-clause-different
env_over-requires-clause-different c = ap are_distinct (c.as_slice-2.ensures ∙ c.in_ok-names.ensures) ∙ c.requires.rule.typed.different

pub env_over-requires-clause-fit : goal.env_over-requires-clause-fit
env_over-requires-clause-fit c =
    let r = seen_rules c.args.running.now.rules.now in
    let i = seen_irule c.args.rule.now in
    let s = c.args.slots.now in
    let descs = c.as_slice-3.ensures ∙ irule-descs s c.in_ok-descs.descs c.push_copies.new.out c.push.new.self c.as_slice.result.now c.in_ok-root.root c.in_ok-descs.ensures c.as_slice.ensures c.in_ok-push_copies.ensures c.in_ok-root.ensures c.in_ok-push.ensures.ok in
    ap (list_all (fits r.properties)) descs ∙ irule-fits r i s (begins c.args.rule.now.left) c.requires.slots

pub returns-clause-env : goal.returns-clause-env
returns-clause-env c =
    let r = seen_rules c.args.running.now.rules.now in
    let i = seen_irule c.args.rule.now in
    let s = c.args.slots.now in
    let descs = c.as_slice-3.ensures ∙ irule-descs s c.in_ok-descs.descs c.push_copies.new.out c.push.new.self c.as_slice.result.now c.in_ok-root.root c.in_ok-descs.ensures c.as_slice.ensures c.in_ok-push_copies.ensures c.in_ok-root.ensures c.in_ok-push.ensures.ok in
    (prepared r (irule_descs i) c.as_slice-2.result.now (irule_slots s) c.as_slice-3.result.now (irule_scope i s) (seen_env c.in_ok-env.env) (irule-scoped r i s c.requires.rule c.requires.slots) (c.as_slice-2.ensures ∙ c.in_ok-names.ensures) descs c.in_ok-env.ensures.env c.in_ok-env.ensures.sound).is

pub returns-clause-ready : goal.returns-clause-ready
returns-clause-ready c =
    let r = seen_rules c.args.running.now.rules.now in
    let i = seen_irule c.args.rule.now in
    let s = c.args.slots.now in
    let descs = c.as_slice-3.ensures ∙ irule-descs s c.in_ok-descs.descs c.push_copies.new.out c.push.new.self c.as_slice.result.now c.in_ok-root.root c.in_ok-descs.ensures c.as_slice.ensures c.in_ok-push_copies.ensures c.in_ok-root.ensures c.in_ok-push.ensures.ok in
    (prepared r (irule_descs i) c.as_slice-2.result.now (irule_slots s) c.as_slice-3.result.now (irule_scope i s) (seen_env c.in_ok-env.env) (irule-scoped r i s c.requires.rule c.requires.slots) (c.as_slice-2.ensures ∙ c.in_ok-names.ensures) descs c.in_ok-env.ensures.env c.in_ok-env.ensures.sound).ready
