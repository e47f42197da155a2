use Rattle.std.proofs.Common.{map, ap, ◌∙◌}
use Rattle.action_eval.specs.Forms.{cost_in}
use Rattle.action_eval.specs.SeenEnv.{seen_env}
use Rattle.pr_value.specs.Repeats.{are_distinct}
use Rattle.rule_ast.specs.CostForms.{cost_name, reads_cost_of}
use Rattle.rule_ast.specs.Descs.{names_of}
use Rattle.rule_ast.specs.Seen.{seen_expr, seen_irule, seen_stmt}
use Rattle.rule_ast.specs.SeenRules.{seen_rules}
use Rattle.rule_runs.proofs.AskedLaws.{cost-given, cost-not_given, cost-there, cost-IsCostOf}
use Rattle.rule_runs.proofs.irules.cost_in.Goals as goal

pub unreachable-requires : goal.unreachable-requires
unreachable-requires c =
    let r = seen_rules c.args.running.now.rules.now in
    let i = seen_irule c.args.rule.now in
    let none = cost-not_given r i c.cost_given.result c.as_slice-2.result.now c.cost_name-name.result.now c.cost_given.ensures c.in_default.is (ap (map seen_stmt) c.as_slice-2.ensures) (c.cost_name-name.ensures ∙ ap cost_name c.as_slice.ensures) in
    cost-there r i c.requires.rule none ⊥

pub cost_form-requires-clause-typed : goal.cost_form-requires-clause-typed
cost_form-requires-clause-typed c =
    let r = seen_rules c.args.running.now.rules.now in
    let i = seen_irule c.args.rule.now in
    let given = cost-given r i c.cost_given.result c.in-Some.cost c.as_slice-2.result.now c.cost_name-name.result.now c.cost_given.ensures c.in-Some.is (ap (map seen_stmt) c.as_slice-2.ensures) (c.cost_name-name.ensures ∙ ap cost_name c.as_slice.ensures) in
    (cost-IsCostOf r i (seen_expr c.in-Some.cost.now) (seen_env c.args.env.now) c.requires.rule c.requires.ready given).typed

pub cost_form-requires-clause-form : goal.cost_form-requires-clause-form
cost_form-requires-clause-form c =
    let r = seen_rules c.args.running.now.rules.now in
    let i = seen_irule c.args.rule.now in
    let given = cost-given r i c.cost_given.result c.in-Some.cost c.as_slice-2.result.now c.cost_name-name.result.now c.cost_given.ensures c.in-Some.is (ap (map seen_stmt) c.as_slice-2.ensures) (c.cost_name-name.ensures ∙ ap cost_name c.as_slice.ensures) in
    (cost-IsCostOf r i (seen_expr c.in-Some.cost.now) (seen_env c.args.env.now) c.requires.rule c.requires.ready given).form

pub cost_form-requires-clause-different : goal.cost_form-requires-clause-different
cost_form-requires-clause-different c = ap (λ xs. are_distinct (names_of xs)) c.as_slice-3.ensures ∙ c.requires.rule.inputs

pub cost_form-requires-clause-of_inputs : goal.cost_form-requires-clause-of_inputs
cost_form-requires-clause-of_inputs c =
    let r = seen_rules c.args.running.now.rules.now in
    let i = seen_irule c.args.rule.now in
    let given = cost-given r i c.cost_given.result c.in-Some.cost c.as_slice-2.result.now c.cost_name-name.result.now c.cost_given.ensures c.in-Some.is (ap (map seen_stmt) c.as_slice-2.ensures) (c.cost_name-name.ensures ∙ ap cost_name c.as_slice.ensures) in
    ap (λ xs. reads_cost_of (cost_in (seen_env c.args.env.now)) (names_of xs) (seen_expr c.in-Some.cost.now)) c.as_slice-3.ensures
    ∙ (cost-IsCostOf r i (seen_expr c.in-Some.cost.now) (seen_env c.args.env.now) c.requires.rule c.requires.ready given).of_inputs
