use Rattle.std.proofs.Common.{◌≡◌, ◌+◌, ◌<◌, ◌≤◌, ℕ, List, Option, true, IfSome, length, map, option_map, ap, sym, ◌∙◌, subst, arith}
use Rattle.std.specs.List.{list_all}
use Rattle.std.proofs.lemmas.List.{get_or-map, length-map}
use Rattle.action_eval.specs.Cost.{is_over}
use Rattle.action_eval.specs.SeenForms.{seen_form, seen_step}
use Rattle.action_eval.specs.declared.cost_forms.step.IStep.{IStep}
use Rattle.descriptor_types.specs.Descriptors.{Desc, fits}
use Rattle.descriptor_types.specs.Labels.{Label, seen_tree}
use Rattle.plan_form.proofs.AskedLaws.{each-AreTrees, inputs-AreTrees, trees-at}
use Rattle.plan_form.specs.Plans.{Plan, IsAnswer, each_asked, seen_plan}
use Rattle.plan_form.specs.declared.plan.Plan as plan
use Rattle.pr_value.specs.Trees.{Tree, height, highest, inputs, trees_of}
use Rattle.rule_trees.specs.Trees.{AreTrees}
use Rattle.rule_trees.specs.Views.{physical}
use Rattle.rule_ast.specs.Seen.{seen_irule}
use Rattle.rule_ast.specs.SeenRules.{seen_rules}
use Rattle.plan_search.proofs.HeightLaws.{asked-lower}
use Rattle.plan_search.proofs.LeastLaws.{all-IsAnswer, lesser-IsBestBelow}
use Rattle.plan_search.proofs.SearchLaws.{all-capped, as_many-over, best-more, by-cheapest, by-none, found-IsAsked, height-at, tree-at}
use Rattle.plan_search.specs.Search.{AreBest, IsBestBelow}
use Rattle.plan_search.proofs.search.+search.Goals as goal

-- ---- all_best

pub all_best-best-requires : goal.all_best-best-requires
all_best-best-requires t c =
    let trees = c.args.trees.now in
    let at = tree-at trees c.loop-tree.tree-index c.tree-item.result (omega (arith, c.loop-tree-test.true)) c.tree-item.is in
    let low : height (seen_tree c.tree-item.result) ≤ highest (trees_of (map seen_tree trees)) = height-at (map seen_tree trees) c.loop-tree.tree-index (seen_tree c.tree-item.result) at in (
      omega (arith, low),
      (
        trees-at (seen_rules c.args.under.now.accepted.now.rules) c.args.under.now.catalog.now (map seen_tree trees) c.loop-tree.tree-index (seen_tree c.tree-item.result) c.requires.trees at,
        c.loop-tree.invariant.1,
      ),
    )

pub all_best-returns-in-None-clause-best : goal.all_best-returns-in-None-clause-best
all_best-returns-in-None-clause-best t c =
    let trees = c.args.trees.now in
    let tree = c.tree-item.result in
    let none =
    subst (λ (o : Option plan.Plan). IsAnswer (seen_rules c.args.under.now.accepted.now.rules) c.args.under.now.catalog.now (seen_tree tree) (option_map seen_plan o)) c.in-None.is c.in_ok-plan.ensures.answer in (
      seen_tree tree,
      (c.loop-tree.tree-index, omega (arith, c.loop-tree-test.true, length-map trees seen_tree), get_or-map seen_tree trees c.loop-tree.tree-index tree (seen_tree tree) (omega (arith, c.loop-tree-test.true)) ∙ ap seen_tree (sym c.tree-item.is)),
      none,
    )

pub all_best-loop-tree-preserved : goal.all_best-loop-tree-preserved
all_best-loop-tree-preserved t c =
    let r = seen_rules c.args.under.now.accepted.now.rules in
    let catalog = c.args.under.now.catalog.now in
    let tree = c.tree-item.result in
    let best = subst (λ (o : Option plan.Plan). IsAnswer r catalog (seen_tree tree) (option_map seen_plan o)) c.in-Some.is c.in_ok-plan.ensures.answer in
    (best-more r catalog c.args.trees.now c.loop-tree.tree-index tree c.loop-tree.plans c.push.new.self c.in-Some.plan (omega (arith, c.loop-tree-test.true)) c.tree-item.is c.loop-tree.invariant.0 best c.in_ok-push-in-Some.ensures.ok, c.in_ok-plan.ensures.found)

-- ---- best_by

pub best_by-all_best-requires : goal.best_by-all_best-requires
best_by-all_best-requires t c =
    let r = seen_rules c.args.under.now.accepted.now.rules in
    let catalog = c.args.under.now.catalog.now in
    let tree = seen_tree c.args.t.now in
    let step = c.in-Some.step in
    let trees : map seen_tree c.as_slice-2.result.now ≡ each_asked (physical r) step.asked (inputs tree) =
    ap (map seen_tree) c.as_slice-2.ensures.value ∙ (c.in_ok-asked.ensures ∙ ap (λ (ds : List Desc). each_asked (physical r) ds (inputs tree)) c.as_slice.ensures) in
    let fit = subst (λ (o : Option IStep). IfSome o (λ s. list_all (fits r.properties) s.asked ≡ true)) c.in-Some.is c.in_ok-step.ensures.asked in
    let low : highest (trees_of (map seen_tree c.as_slice-2.result.now)) < height tree =
    subst (λ (ts : List (Tree Label)). highest (trees_of ts) < height tree) (sym trees) (asked-lower (physical r) step.asked tree) in (
      omega (arith, low),
      (
        subst (λ (ts : List (Tree Label)). AreTrees r catalog (trees_of ts)) (sym trees)
            (each-AreTrees r catalog step.asked (inputs tree) c.args.under.now.accepted.now.accepted fit (inputs-AreTrees r catalog tree c.requires.tree)),
        c.requires.found,
      ),
    )

pub best_by-plan_by-requires-clause-over : goal.best_by-plan_by-requires-clause-over
best_by-plan_by-requires-clause-over t c =
    let r = seen_rules c.args.under.now.accepted.now.rules in
    let catalog = c.args.under.now.catalog.now in
    let tree = seen_tree c.args.t.now in
    let step = c.in-Some.step in
    let trees : map seen_tree c.as_slice-2.result.now ≡ each_asked (physical r) step.asked (inputs tree) =
    ap (map seen_tree) c.as_slice-2.ensures.value ∙ (c.in_ok-asked.ensures ∙ ap (λ (ds : List Desc). each_asked (physical r) ds (inputs tree)) c.as_slice.ensures) in
    let asked = found-IsAsked r catalog c.args.rule tree c.in_ok-step.field-0 step (map seen_tree c.as_slice-2.result.now) c.args.under.now.accepted.now.rules.spelled c.args.under.now.accepted.now.accepted c.in_ok-step.ensures.step c.in-Some.is trees in
    let all =
    subst (λ (o : Option (List plan.Plan)). AreBest r catalog (map seen_tree c.as_slice-2.result.now) (option_map (map seen_plan) o)) c.in-Some-2.is c.in_ok-inputs.ensures.best in
    let over = subst (λ (o : Option IStep). IfSome o (λ s. is_over (length s.asked) (seen_form s.cost) ≡ true)) c.in-Some.is c.in_ok-step.ensures.over in
    as_many-over r catalog c.args.rule tree (seen_step step) (map seen_tree c.as_slice-2.result.now) c.in-Some-2.inputs asked all over

pub best_by-plan_by-requires-clause-capped : goal.best_by-plan_by-requires-clause-capped
best_by-plan_by-requires-clause-capped t c =
    let r = seen_rules c.args.under.now.accepted.now.rules in
    let catalog = c.args.under.now.catalog.now in
    let all =
    subst (λ (o : Option (List plan.Plan)). AreBest r catalog (map seen_tree c.as_slice-2.result.now) (option_map (map seen_plan) o)) c.in-Some-2.is c.in_ok-inputs.ensures.best in
    all-capped r catalog (map seen_tree c.as_slice-2.result.now) c.in-Some-2.inputs all

pub best_by-returns-in_ok-plan_by-in-Some-2-clause-best :
    goal.best_by-returns-in_ok-plan_by-in-Some-2-clause-best
best_by-returns-in_ok-plan_by-in-Some-2-clause-best t c =
    let r = seen_rules c.args.under.now.accepted.now.rules in
    let catalog = c.args.under.now.catalog.now in
    let tree = seen_tree c.args.t.now in
    let step = c.in-Some.step in
    let trees : map seen_tree c.as_slice-2.result.now ≡ each_asked (physical r) step.asked (inputs tree) =
    ap (map seen_tree) c.as_slice-2.ensures.value ∙ (c.in_ok-asked.ensures ∙ ap (λ (ds : List Desc). each_asked (physical r) ds (inputs tree)) c.as_slice.ensures) in
    let asked = found-IsAsked r catalog c.args.rule tree c.in_ok-step.field-0 step (map seen_tree c.as_slice-2.result.now) c.args.under.now.accepted.now.rules.spelled c.args.under.now.accepted.now.accepted c.in_ok-step.ensures.step c.in-Some.is trees in
    let all =
    subst (λ (o : Option (List plan.Plan)). AreBest r catalog (map seen_tree c.as_slice-2.result.now) (option_map (map seen_plan) o)) c.in-Some-2.is c.in_ok-inputs.ensures.best in
    by-cheapest r catalog c.args.rule tree (seen_step step) (map seen_tree c.as_slice-2.result.now) (map seen_plan c.in-Some-2.inputs) (seen_plan c.in_ok-plan_by-in-Some-2.field-0) asked all c.in_ok-plan_by-in-Some-2.ensures

pub best_by-returns-in-None-clause-best : goal.best_by-returns-in-None-clause-best
best_by-returns-in-None-clause-best t c =
    let r = seen_rules c.args.under.now.accepted.now.rules in
    let catalog = c.args.under.now.catalog.now in
    let tree = seen_tree c.args.t.now in
    let step = c.in-Some.step in
    let trees : map seen_tree c.as_slice-2.result.now ≡ each_asked (physical r) step.asked (inputs tree) =
    ap (map seen_tree) c.as_slice-2.ensures.value ∙ (c.in_ok-asked.ensures ∙ ap (λ (ds : List Desc). each_asked (physical r) ds (inputs tree)) c.as_slice.ensures) in
    let asked = found-IsAsked r catalog c.args.rule tree c.in_ok-step.field-0 step (map seen_tree c.as_slice-2.result.now) c.args.under.now.accepted.now.rules.spelled c.args.under.now.accepted.now.accepted c.in_ok-step.ensures.step c.in-Some.is trees in
    let none =
    subst (λ (o : Option (List plan.Plan)). AreBest r catalog (map seen_tree c.as_slice-2.result.now) (option_map (map seen_plan) o)) c.in-None.is c.in_ok-inputs.ensures.best in
    by-none r catalog c.args.rule tree (seen_step step) (map seen_tree c.as_slice-2.result.now) asked none

-- ---- cheapest

pub cheapest-loop-rule-preserved : goal.cheapest-loop-rule-preserved
cheapest-loop-rule-preserved t c =
    let r = seen_rules c.args.under.now.accepted.now.rules in
    let catalog = c.args.under.now.catalog.now in
    let tree = seen_tree c.args.t.now in (
      subst (λ (o : Option Plan). IsBestBelow r catalog tree (c.loop-rule.rule + 1) o) (sym c.lesser-best.ensures)
          (lesser-IsBestBelow r catalog tree c.loop-rule.rule (option_map seen_plan c.loop-rule.best) (option_map seen_plan c.in_ok-other.other) c.loop-rule.invariant.0 c.in_ok-other.ensures.best),
      c.in_ok-other.ensures.found,
    )

pub cheapest-returns-clause-answer : goal.cheapest-returns-clause-answer
cheapest-returns-clause-answer t c =
    let rules = c.args.under.now.accepted.now.rules in
    let catalog = c.args.under.now.catalog.now in
    let tree = seen_tree c.args.t.now in
    let all : c.loop-rule.rule ≡ length (map seen_irule rules.irules) =
    omega (arith, c.loop-rule-test.false, c.loop-rule.auto, ap length c.as_slice-rule-end.ensures, length-map rules.irules seen_irule) in
    all-IsAnswer (seen_rules rules) catalog tree (option_map seen_plan c.loop-rule.best)
    (subst (λ (n : ℕ). IsBestBelow (seen_rules rules) catalog tree n (option_map seen_plan c.loop-rule.best)) all c.loop-rule.invariant.0)
