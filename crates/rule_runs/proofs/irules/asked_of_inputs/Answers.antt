use Rattle.std.proofs.Common.{ap, ◌∙◌}
use Rattle.std.specs.List.{list_all}
use Rattle.action_eval.specs.SeenEnv.{seen_env}
use Rattle.descriptor_types.specs.Descriptors.{fits}
use Rattle.rule_ast.specs.Descs.{irule_descs, names_of}
use Rattle.rule_ast.specs.Seen.{seen_irule}
use Rattle.rule_ast.specs.SeenRules.{seen_rules}
use Rattle.rule_runs.proofs.AskedLaws.{asked-all, asked-fits, inputs-known}
use Rattle.rule_runs.proofs.irules.asked_of_inputs.Goals as goal

pub returns-clause-asked : goal.returns-clause-asked
returns-clause-asked c =
    asked-all (seen_rules c.args.running.now.rules.now) c.args.physical.now (seen_irule c.args.rule.now) (seen_env c.args.env.now) c.loop-input.asked c.as_slice-input-items.result.now c.loop-input.input-index
    c.loop-input.invariant c.as_slice-input-items.ensures c.loop-input-test.false

pub returns-clause-fit : goal.returns-clause-fit
returns-clause-fit c =
    let r = seen_rules c.args.running.now.rules.now in
    let i = seen_irule c.args.rule.now in
    let env = seen_env c.args.env.now in
    let mask = c.args.physical.now in
    ap (list_all (fits r.properties)) (asked-all r mask i env c.loop-input.asked c.as_slice-input-items.result.now c.loop-input.input-index c.loop-input.invariant c.as_slice-input-items.ensures c.loop-input-test.false)
    ∙ asked-fits r mask (irule_descs i) env (names_of i.right.inputs) c.requires.mask c.requires.ready (inputs-known i)
