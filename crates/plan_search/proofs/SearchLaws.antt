-- The steps of the search, as the code takes them.
use Rattle.std.proofs.Common.{◌≡◌, ℕ, zero, suc, ◌+◌, ◌<◌, ◌≤◌, true, List, [], ◌∷◌, ◌++◌, length, map, take, get_or, Option, Some, None, option_map, refl, ap, sym, ◌∙◌, subst, arith}
use Rattle.std.specs.Prelude.{slice_get, zip}
use Rattle.std.specs.List.{All}
use Rattle.std.proofs.lemmas.List.{get_or-map, length-map, map-append, take_more}
use Rattle.std.proofs.lemmas.Option.{same_Some, slice_get-map, slice_get_read}
use Rattle.action_eval.specs.Cost.{IStep, is_over}
use Rattle.action_eval.specs.SeenForms.{seen_step}
use Rattle.action_eval.specs.declared.cost_forms.step.IStep as step
use Rattle.catalog.specs.Contents.{Catalog}
use Rattle.descriptor_types.specs.Labels.{Label, seen_tree}
use Rattle.descriptor_types.specs.declared.tree.Tree as tree
use Rattle.pr_value.specs.Capped.{cap}
use Rattle.pr_value.specs.Trees.{Tree, height, highest, inputs, trees_of}
use Rattle.rule_ast.specs.Spelled.{spells}
use Rattle.rule_ast.specs.Syntax.{Rules}
use Rattle.rule_types.specs.Conditions.{refused_by}
use Rattle.rule_trees.specs.Steps.{i_step}
use Rattle.rule_trees.specs.Views.{physical}
use Rattle.plan_form.proofs.ImplementLaws.{costs-capped}
use Rattle.plan_form.proofs.StepLaws.{asked-long, streams-inputs}
use Rattle.plan_form.specs.Plans.{Plan, Best, asked_trees, cost, each_asked, matched_streams, plan_by, seen_plan}
use Rattle.plan_form.specs.declared.plan.Plan as plan
use Rattle.plan_search.proofs.RuleLaws.{AllBest-long, AllBest-push, all_implement, missing-IsBestBy, plan_by-IsBestBy}
use Rattle.plan_search.specs.Search.{AllBest, AreBest, IsBestBy}

-- ---- what is asked for

zip-long : {X Y : Type 0} (xs : List X) (ys : List Y) → length xs ≡ length ys → length (zip xs ys) ≡ length xs
zip-long [] ys same = refl
zip-long (x ∷ xs) [] same = absurd (omega (arith, same))
zip-long (x ∷ xs) (y ∷ ys) same = ap suc (zip-long xs ys (omega (arith, same)))

-- a rule that applies, and best plans for what it asks for
pub record IsAsked (r : Rules) (c : Catalog) (n : ℕ) (t : Tree Label) (s : IStep) (ts : List (Tree Label)) : Type 0 where
  pub spelled : spells r ≡ true
  pub accepted : refused_by r ≡ None
  pub step : i_step r c n t ≡ Some s
  pub trees : ts ≡ each_asked (physical r) s.asked (inputs t)

-- as the code finds it
pub found-IsAsked : (r : Rules) (c : Catalog) (n : ℕ) (t : Tree Label) (o : Option step.IStep) (s : step.IStep) (ts : List (Tree Label)) → spells r ≡ true → refused_by r ≡ None → option_map seen_step o ≡ i_step r c n t → o ≡ Some s → ts ≡ each_asked (physical r) s.asked (inputs t) → IsAsked r c n t (seen_step s) ts
found-IsAsked r c n t o s ts spelled accepted found is trees = record { spelled = spelled; accepted = accepted; step = sym found ∙ ap (option_map seen_step) is; trees = trees }

asked-is : (r : Rules) (c : Catalog) (n : ℕ) (t : Tree Label) (s : IStep) (ts : List (Tree Label)) → IsAsked r c n t s ts → ts ≡ asked_trees r s.asked (matched_streams r n t)
asked-is r c n t s ts is = is.trees ∙ ap (each_asked (physical r) s.asked) (sym (streams-inputs r c n t s is.spelled is.accepted is.step))

asked-many : (r : Rules) (c : Catalog) (n : ℕ) (t : Tree Label) (s : IStep) (ts : List (Tree Label)) → IsAsked r c n t s ts → length ts ≡ length s.asked
asked-many r c n t s ts is =
    ap length is.trees ∙ (length-map (zip s.asked (inputs t)) _ ∙ zip-long s.asked (inputs t) (asked-long r c n t s is.spelled is.accepted is.step))

-- a plan for each
pub as_many-over : (r : Rules) (c : Catalog) (n : ℕ) (t : Tree Label) (s : IStep) (ts : List (Tree Label)) (ps : List plan.Plan) → IsAsked r c n t s ts → AllBest r c ts (map seen_plan ps) → is_over (length s.asked) s.cost ≡ true → is_over (length ps) s.cost ≡ true
as_many-over r c n t s ts ps is all over =
    let long : length ps ≡ length s.asked = sym (length-map ps seen_plan) ∙ (AllBest-long r c ts (map seen_plan ps) all ∙ asked-many r c n t s ts is) in
    ap (λ k. is_over k s.cost) long ∙ over

pub all-capped : (r : Rules) (c : Catalog) (ts : List (Tree Label)) (ps : List plan.Plan) → AllBest r c ts (map seen_plan ps) → All (λ p. cost r (seen_plan p) ≤ cap) ps
all-capped r c ts ps all k d within =
    let low : get_or (map (cost r) (map seen_plan ps)) k (cost r (seen_plan d)) ≤ cap =
    costs-capped r c (map seen_plan ps) ts (all_implement r c ts (map seen_plan ps) all) k (cost r (seen_plan d)) (omega (arith, within, length-map ps seen_plan, length-map (map seen_plan ps) (cost r))) in
    let first = get_or-map (cost r) (map seen_plan ps) k (seen_plan d) (cost r (seen_plan d)) (omega (arith, within, length-map ps seen_plan)) in
    let second = ap (cost r) (get_or-map seen_plan ps k d (seen_plan d) within) in
    omega (arith, low, first, second)

-- the plan by the rule is the cheapest by it
pub by-cheapest : (r : Rules) (c : Catalog) (n : ℕ) (t : Tree Label) (s : IStep) (ts : List (Tree Label)) (ps : List Plan) (p : Plan) → IsAsked r c n t s ts → AllBest r c ts ps → p ≡ plan_by r n s ps → IsBestBy r c t n (Some p)
by-cheapest r c n t s ts ps p is all made =
    subst (λ (q : Plan). IsBestBy r c t n (Some q)) (sym made)
    (plan_by-IsBestBy r c n t s ps is.step (subst (λ (us : List (Tree Label)). AllBest r c us ps) (asked-is r c n t s ts is) all))

-- or there is none
pub by-none : (r : Rules) (c : Catalog) (n : ℕ) (t : Tree Label) (s : IStep) (ts : List (Tree Label)) → IsAsked r c n t s ts → AreBest r c ts None → IsBestBy r c t n None
by-none r c n t s ts is none = missing-IsBestBy r c n t s is.step (subst (λ (us : List (Tree Label)). AreBest r c us None) (asked-is r c n t s ts is) none)

-- ---- one tree after another

pub height-at : (ts : List (Tree Label)) (i : ℕ) (t : Tree Label) → slice_get ts i ≡ Some t → height t ≤ highest (trees_of ts)
height-at [] i t at = cc
height-at (u ∷ ts) zero t at = let same : height u ≡ height t = ap height (same_Some u t at) in omega (arith, same)
height-at (u ∷ ts) (suc i) t at = omega (arith, height-at ts i t at)

pub tree-at : (ts : List tree.Tree) (i : ℕ) (t : tree.Tree) → i < length ts → t ≡ get_or ts i t → slice_get (map seen_tree ts) i ≡ Some (seen_tree t)
tree-at ts i t within at = slice_get-map seen_tree ts i ∙ ap (option_map seen_tree) (slice_get_read ts (length ts) i t refl within at)

-- a best plan more
pub best-more : (r : Rules) (c : Catalog) (ts : List tree.Tree) (i : ℕ) (t : tree.Tree) (ps more : List plan.Plan) (p : plan.Plan) → i < length ts → t ≡ get_or ts i t → AllBest r c (map seen_tree (take i ts)) (map seen_plan ps) → Best r c (seen_tree t) (seen_plan p) → more ≡ ps ++ p ∷ []
    → AllBest r c (map seen_tree (take (i + 1) ts)) (map seen_plan more)
best-more r c ts i t ps more p within at all best pushed =
    let trees : map seen_tree (take (i + 1) ts) ≡ map seen_tree (take i ts) ++ seen_tree t ∷ [] =
    ap (map seen_tree) (take_more ts i t within ∙ ap (λ (u : tree.Tree). take i ts ++ u ∷ []) (sym at)) ∙ map-append seen_tree (take i ts) (t ∷ []) in
    let plans : map seen_plan more ≡ map seen_plan ps ++ seen_plan p ∷ [] = ap (map seen_plan) pushed ∙ map-append seen_plan ps (p ∷ []) in
    subst (λ (us : List (Tree Label)). AllBest r c us (map seen_plan more)) (sym trees)
    (subst (λ (qs : List Plan). AllBest r c (map seen_tree (take i ts) ++ seen_tree t ∷ []) qs) (sym plans) (AllBest-push r c (map seen_tree (take i ts)) (map seen_plan ps) (seen_tree t) (seen_plan p) all best))
