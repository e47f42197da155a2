use Rattle.std.proofs.Common.{rules, ◌≡◌, ◌<◌, ◌≤◌, true, length, map, refl, ap, sym, ◌∙◌, subst, arith, All, IfSome}
use Rattle.std.specs.List.{list_all}
use Rattle.std.proofs.lemmas.Bool.{false≢true}
use Rattle.std.proofs.lemmas.List.{length-map}
use Rattle.action_eval.specs.Cost.{is_over}
use Rattle.action_eval.specs.SeenForms.{seen_form, seen_step}
use Rattle.descriptor_types.specs.Descriptors.{fits}
use Rattle.descriptor_types.specs.Labels.{seen_tree}
use Rattle.pr_value.specs.Capped.{cap}
use Rattle.pr_value.specs.Trees.{inputs, trees_of}
use Rattle.rule_trees.specs.Steps.{i_step}
use Rattle.rule_trees.specs.Views.{physical}
use Rattle.rule_ast.specs.SeenRules.{seen_rules}
use Rattle.plan_form.specs.declared.plan.Plan.{the_lemmas}
use Rattle.plan_form.specs.Plans.{AllImplement, cost, costed, each_asked, seen_plan}
use Rattle.plan_form.proofs.AskedLaws.{seen-at, trees-at}
use Rattle.plan_form.proofs.FoundLaws.{all-same, applied, as_many-seen, asked-seen, asked-trees, implement-next, over-plans, seen-fulfils, seen-implements}
use Rattle.plan_form.proofs.ImplementLaws.{costs-capped, implements-at}
use Rattle.plan_form.proofs.PairLaws.{read-at}
use Rattle.plan_form.proofs.SeenLaws.{costs-found}
use Rattle.plan_form.proofs.implementing.+implements.Goals as goal

-- ---- plans and trees side by side

pub all_implement-returns-then-plans-trees : goal.all_implement-returns-then-plans-trees
all_implement-returns-then-plans-trees t c =
    (λ e. absurd (false≢true e), λ all. absurd (c.if-plans-trees.true (as_many-seen (seen_rules c.args.a.now.rules) c.args.catalog.now c.args.plans.now c.args.trees.now all)))

pub all_implement-implements-requires : goal.all_implement-implements-requires
all_implement-implements-requires t c =
    let trees = c.args.trees.now in
    let i = c.loop-i.i in
    let within : i < length trees = omega (arith, c.loop-i-test.true, c.if-plans-trees.false) in
    let there = seen-at seen_tree trees i c.index-trees-i.result (read-at trees i c.index-trees-i.result within c.index-trees-i.is) in
    (search (rules, the_lemmas), (c.requires.classes, trees-at (seen_rules c.args.a.now.rules) c.args.catalog.now (map seen_tree trees) i (seen_tree c.index-trees-i.result) c.requires.trees there))

pub all_implement-returns-then-not-branch : goal.all_implement-returns-then-not-branch
all_implement-returns-then-not-branch t c =
    let r = seen_rules c.args.a.now.rules in
    let plans = c.args.plans.now in
    let trees = c.args.trees.now in
    let i = c.loop-i.i in
    let plan = c.index-plans-i.result in
    let tree = c.index-trees-i.result in
    let first = seen-at seen_plan plans i plan (read-at plans i plan c.loop-i-test.true c.index-plans-i.is) in
    let second = seen-at seen_tree trees i tree (read-at trees i tree (omega (arith, c.loop-i-test.true, c.if-plans-trees.false)) c.index-trees-i.is) in (
      λ e. absurd (false≢true e),
      λ all. sym c.if-not-branch.true ∙ c.in_ok-implements.ensures.1 (implements-at r c.args.catalog.now (map seen_plan plans) (map seen_tree trees) i (seen_plan plan) (seen_tree tree) all first second),
    )

pub all_implement-loop-i-preserved : goal.all_implement-loop-i-preserved
all_implement-loop-i-preserved t c =
    let r = seen_rules c.args.a.now.rules in
    let plans = c.args.plans.now in
    let trees = c.args.trees.now in
    let i = c.loop-i.i in
    let plan = c.index-plans-i.result in
    let tree = c.index-trees-i.result in
    let first = seen-at seen_plan plans i plan (read-at plans i plan c.loop-i-test.true c.index-plans-i.is) in
    let second = seen-at seen_tree trees i tree (read-at trees i tree (omega (arith, c.loop-i-test.true, c.if-plans-trees.false)) c.index-trees-i.is) in
    implement-next r c.args.catalog.now (map seen_plan plans) (map seen_tree trees) i (seen_plan plan) (seen_tree tree) first second c.loop-i.invariant (c.in_ok-implements.ensures.0 c.if-not-branch.false)

-- ---- an algorithm

pub implements-all_implement-requires : goal.implements-all_implement-requires
implements-all_implement-requires t c =
    let r = seen_rules c.args.a.now.rules in
    let tree = seen_tree c.args.t.now in
    let asked = c.in-Some.step.asked in
    let given = ap (map seen_tree) c.as_slice-in-Alg.ensures.value ∙ c.in_ok-asked-in-Alg.ensures in
    let are = asked-seen r c.physical.result.now c.args.c.now asked c.as_slice.result.now (inputs tree) (map seen_tree c.inputs.result.now) (map seen_tree c.as_slice-in-Alg.result.now) c.physical.ensures c.requires.classes c.as_slice.ensures c.inputs.ensures given in
    let fit : list_all (fits r.properties) asked ≡ true = subst (λ o. IfSome o (λ s. list_all (fits r.properties) s.asked ≡ true)) c.in-Some.is c.in_ok-step-in-Alg.ensures.asked in
    (search (rules, the_lemmas), (c.requires.classes, asked-trees r c.args.catalog.now tree asked (map seen_tree c.as_slice-in-Alg.result.now) c.args.a.now.accepted fit c.requires.tree are))

pub implements-returns-then-not-branch : goal.implements-returns-then-not-branch
implements-returns-then-not-branch t c =
    let r = seen_rules c.args.a.now.rules in
    let k = c.args.catalog.now in
    let tree = seen_tree c.args.t.now in
    let step = seen_step c.in-Some.step in
    let given = ap (map seen_tree) c.as_slice-in-Alg.ensures.value ∙ c.in_ok-asked-in-Alg.ensures in
    let are = asked-seen r c.physical.result.now c.args.c.now step.asked c.as_slice.result.now (inputs tree) (map seen_tree c.inputs.result.now) (map seen_tree c.as_slice-in-Alg.result.now) c.physical.ensures c.requires.classes c.as_slice.ensures c.inputs.ensures given in
    let applies = applied c.in_ok-step-in-Alg.field-0 c.in-Some.step (i_step r k c.in-Alg.rule tree) c.in_ok-step-in-Alg.ensures.step c.in-Some.is in (
      λ e. absurd (false≢true e),
      λ does.
          let all = (seen-fulfils r k c.in-Alg.rule c.in-Alg.desc c.in-Alg.inputs c.args.p.now tree step c.args.a.now.rules.spelled c.args.a.now.accepted applies c.in-Alg.is does).plans in
          sym c.if-not-branch.true ∙ c.in_ok-all_implement-in-Alg.ensures.1 (all-same r k c.in-Alg.inputs c.as_slice-plans.result.now (each_asked (physical r) step.asked (inputs tree)) (map seen_tree c.as_slice-in-Alg.result.now) c.as_slice-plans.ensures are all),
    )

pub implements-costed-requires-clause-over : goal.implements-costed-requires-clause-over
implements-costed-requires-clause-over t c =
    let r = seen_rules c.args.a.now.rules in
    let k = c.args.catalog.now in
    let tree = seen_tree c.args.t.now in
    let step = seen_step c.in-Some.step in
    let plans = c.as_slice-plans.result.now in
    let given = ap (map seen_tree) c.as_slice-in-Alg.ensures.value ∙ c.in_ok-asked-in-Alg.ensures in
    let are = asked-seen r c.physical.result.now c.args.c.now step.asked c.as_slice.result.now (inputs tree) (map seen_tree c.inputs.result.now) (map seen_tree c.as_slice-in-Alg.result.now) c.physical.ensures c.requires.classes c.as_slice.ensures c.inputs.ensures given in
    let applies = applied c.in_ok-step-in-Alg.field-0 c.in-Some.step (i_step r k c.in-Alg.rule tree) c.in_ok-step-in-Alg.ensures.step c.in-Some.is in
    let over = subst (λ o. IfSome o (λ s. is_over (length s.asked) (seen_form s.cost) ≡ true)) c.in-Some.is c.in_ok-step-in-Alg.ensures.over in
    let all = subst (AllImplement r k (trees_of (map seen_plan plans))) are (c.in_ok-all_implement-in-Alg.ensures.0 c.if-not-branch.false) in
    let costs = costs-found r plans plans c.in_ok-costs-in-Alg.costs.items c.as_slice-in-Alg-2.result.now refl c.in_ok-costs-in-Alg.ensures c.as_slice-in-Alg-2.ensures.value in
    over-plans r k c.in-Alg.rule tree step (map seen_plan plans) (length c.as_slice-in-Alg-2.result.now) c.args.a.now.rules.spelled c.args.a.now.accepted applies over all (ap length costs ∙ length-map (map seen_plan plans) (cost r))

pub implements-costed-requires-clause-capped : goal.implements-costed-requires-clause-capped
implements-costed-requires-clause-capped t c =
    let r = seen_rules c.args.a.now.rules in
    let plans = c.as_slice-plans.result.now in
    let costs = costs-found r plans plans c.in_ok-costs-in-Alg.costs.items c.as_slice-in-Alg-2.result.now refl c.in_ok-costs-in-Alg.ensures c.as_slice-in-Alg-2.ensures.value in
    let all = c.in_ok-all_implement-in-Alg.ensures.0 c.if-not-branch.false in
    subst (All (λ x. x ≤ cap)) (sym costs) (costs-capped r c.args.catalog.now (map seen_plan plans) (map seen_tree c.as_slice-in-Alg.result.now) all)

pub implements-returns-in_ok-costs-in-Alg : goal.implements-returns-in_ok-costs-in-Alg
implements-returns-in_ok-costs-in-Alg t c =
    let r = seen_rules c.args.a.now.rules in
    let k = c.args.catalog.now in
    let tree = seen_tree c.args.t.now in
    let step = seen_step c.in-Some.step in
    let plans = c.in-Alg.inputs in
    let given = ap (map seen_tree) c.as_slice-in-Alg.ensures.value ∙ c.in_ok-asked-in-Alg.ensures in
    let are = asked-seen r c.physical.result.now c.args.c.now step.asked c.as_slice.result.now (inputs tree) (map seen_tree c.inputs.result.now) (map seen_tree c.as_slice-in-Alg.result.now) c.physical.ensures c.requires.classes c.as_slice.ensures c.inputs.ensures given in
    let applies = applied c.in_ok-step-in-Alg.field-0 c.in-Some.step (i_step r k c.in-Alg.rule tree) c.in_ok-step-in-Alg.ensures.step c.in-Some.is in
    let all = all-same r k c.as_slice-plans.result.now plans (map seen_tree c.as_slice-in-Alg.result.now) (each_asked (physical r) step.asked (inputs tree)) (sym c.as_slice-plans.ensures) (sym are) (c.in_ok-all_implement-in-Alg.ensures.0 c.if-not-branch.false) in
    let costs = costs-found r plans c.as_slice-plans.result.now c.in_ok-costs-in-Alg.costs.items c.as_slice-in-Alg-2.result.now c.as_slice-plans.ensures c.in_ok-costs-in-Alg.ensures c.as_slice-in-Alg-2.ensures.value in
    let made : c.costed.result ≡ costed r step (map (cost r) (map seen_plan plans)) = c.costed.ensures ∙ ap (costed r step) costs in (
      λ same. seen-implements r k c.in-Alg.rule c.in-Alg.desc plans c.args.p.now tree step c.args.a.now.rules.spelled c.args.a.now.accepted applies c.in-Alg.is (record { plans = all; desc = c.same-in-Alg.ensures.equal.0 same ∙ made }),
      λ does. c.same-in-Alg.ensures.equal.1 ((seen-fulfils r k c.in-Alg.rule c.in-Alg.desc plans c.args.p.now tree step c.args.a.now.rules.spelled c.args.a.now.accepted applies c.in-Alg.is does).desc ∙ sym made),
    )
