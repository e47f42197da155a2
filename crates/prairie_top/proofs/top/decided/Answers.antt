use Rattle.std.proofs.Common.{◌++◌, List, ℕ, Option, option_map, ap, ◌∙◌, subst}
use Rattle.descriptor_types.specs.Labels.{seen_tree}
use Rattle.plan_form.specs.Plans.{IsAnswer, seen_plan}
use Rattle.plan_form.specs.PlanText.{plan_text}
use Rattle.plan_form.specs.declared.plan.Plan as rust
use Rattle.prairie_top.specs.Messages.{no_plan_text}
use Rattle.rule_ast.specs.SeenRules.{seen_rules}
use Rattle.prairie_top.proofs.top.decided.Goals as goal

pub returns-in_ok-plan_text-in-Some : goal.returns-in_ok-plan_text-in-Some
returns-in_ok-plan_text-in-Some c =
    let r = seen_rules c.args.under.now.accepted.now.rules in
    let t = seen_tree c.args.tree.now in
    let p = seen_plan c.in-Some.plan in
    let best = subst (λ (o : Option rust.Plan). IsAnswer r c.args.under.now.catalog.now t (option_map seen_plan o)) c.in-Some.is c.in_ok-plan.ensures in
    (p, best, c.in_ok-plan_text-in-Some.ensures.ok ∙ ap (λ (text : List ℕ). text ++ plan_text r p) c.requires.empty)

pub returns-in_ok-push_bytes-in-None : goal.returns-in_ok-push_bytes-in-None
returns-in_ok-push_bytes-in-None c =
    let r = seen_rules c.args.under.now.accepted.now.rules in
    let t = seen_tree c.args.tree.now in
    let none = subst (λ (o : Option rust.Plan). IsAnswer r c.args.under.now.catalog.now t (option_map seen_plan o)) c.in-None.is c.in_ok-plan.ensures in
    (none, c.in_ok-push_bytes-in-None.ensures.ok ∙ ap (λ (text : List ℕ). text ++ no_plan_text) c.requires.empty)
