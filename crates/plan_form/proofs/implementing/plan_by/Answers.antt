use Rattle.action_eval.specs.SeenForms.{seen_step}
use Rattle.rule_ast.specs.SeenRules.{seen_rules}
use Rattle.plan_form.proofs.SeenLaws.{capped-costs, costs-found, seen-plan_by}
use Rattle.plan_form.proofs.implementing.plan_by.Goals as goal

pub costed-desc-requires-clause-capped : goal.costed-desc-requires-clause-capped
costed-desc-requires-clause-capped c =
    let r = seen_rules c.args.a.now.rules in
    let costs = costs-found r c.args.plans c.as_slice.result.now c.in_ok-costs.costs.items c.as_slice-2.result.now c.as_slice.ensures c.in_ok-costs.ensures c.as_slice-2.ensures.value in
    capped-costs r c.args.plans c.as_slice-2.result.now costs c.requires.capped

pub returns : goal.returns
returns c =
    let r = seen_rules c.args.a.now.rules in
    let costs = costs-found r c.args.plans c.as_slice.result.now c.in_ok-costs.costs.items c.as_slice-2.result.now c.as_slice.ensures c.in_ok-costs.ensures c.as_slice-2.ensures.value in
    seen-plan_by r c.args.rule (seen_step c.args.step) c.args.plans c.as_slice-2.result.now c.costed-desc.result costs c.costed-desc.ensures
