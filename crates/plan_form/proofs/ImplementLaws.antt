-- What plans implement, and that they cost at most the cap.
use Rattle.std.proofs.Common.{◌≡◌, ℕ, zero, suc, ◌≤◌, true, List, [], ◌∷◌, ◌++◌, length, map, Some, None, refl, ap, sym, ◌∙◌, subst, arith}
use Rattle.std.specs.Prelude.{slice_get}
use Rattle.std.specs.List.{All, AllByRecursion as Every}
use Rattle.std.proofs.lemmas.Option.{same_Some}
use Rattle.pr_value.proofs.TreeLaws.{list_of_trees_of}
use Rattle.pr_value.specs.Capped.{cap}
use Rattle.pr_value.specs.Trees.{Tree, Trees, node, nil, cons, inputs, list_of, tree, trees_of}
use Rattle.catalog.specs.Contents.{Catalog}
use Rattle.descriptor_types.specs.Descriptors.{Desc}
use Rattle.descriptor_types.specs.Labels.{Label}
use Rattle.rule_ast.specs.CostForms.{cost_name}
use Rattle.rule_ast.specs.Spelled.{spells}
use Rattle.rule_ast.specs.Syntax.{Rules}
use Rattle.rule_types.specs.Conditions.{refused_by}
use Rattle.action_eval.proofs.CostLaws.{cost_in_cap}
use Rattle.action_eval.specs.Cost.{IStep, cost_of}
use Rattle.rule_trees.specs.Steps.{i_step}
use Rattle.rule_trees.specs.Views.{physical}
use Rattle.plan_form.proofs.CostLaws.{set_reads}
use Rattle.plan_form.proofs.StepLaws.{streams-inputs}
use Rattle.plan_form.specs.Plans.{Plan, PlanLabel, file, algorithm, AllImplement, Implements, asked_trees, cost, costed, desc_cost, each_asked, matched_streams}

-- ---- pairwise

pub implement-more : (r : Rules) (c : Catalog) (ps : List Plan) (ts : List (Tree Label)) (p : Plan) (t : Tree Label) → AllImplement r c (trees_of ps) ts → Implements r c p t → AllImplement r c (trees_of (ps ++ p ∷ [])) (ts ++ t ∷ [])
implement-more r c [] [] p t all one = (one, tt)
implement-more r c [] (u ∷ ts) p t all one = absurd all
implement-more r c (q ∷ ps) [] p t all one = absurd all
implement-more r c (q ∷ ps) (u ∷ ts) p t all one = (all.0, implement-more r c ps ts p t all.1 one)

pub implements-at : (r : Rules) (c : Catalog) (ps : List Plan) (ts : List (Tree Label)) (i : ℕ) (p : Plan) (t : Tree Label) → AllImplement r c (trees_of ps) ts → slice_get ps i ≡ Some p → slice_get ts i ≡ Some t → Implements r c p t
implements-at r c [] ts i p t all first second = cc
implements-at r c (q ∷ ps) [] i p t all first second = absurd all
implements-at r c (q ∷ ps) (u ∷ ts) zero p t all first second =
    subst (λ (x : Plan). Implements r c x t) (same_Some q p first) (subst (λ (y : Tree Label). Implements r c q y) (same_Some u t second) all.0)
implements-at r c (q ∷ ps) (u ∷ ts) (suc i) p t all first second = implements-at r c ps ts i p t all.1 first second

pub as_many : (r : Rules) (c : Catalog) (ps : List Plan) (ts : List (Tree Label)) → AllImplement r c (trees_of ps) ts → length ps ≡ length ts
as_many r c [] [] all = refl
as_many r c [] (t ∷ ts) all = absurd all
as_many r c (p ∷ ps) [] all = absurd all
as_many r c (p ∷ ps) (t ∷ ts) all = ap suc (as_many r c ps ts all.1)

-- ---- costs

all-from : {X : Type 0} (P : X → Type 0) (xs : List X) → Every P xs → All P xs
all-from P [] every k d within = absurd (omega (arith, within))
all-from P (x ∷ xs) every zero d within = every.0
all-from P (x ∷ xs) every (suc k) d within = all-from P xs every.1 k d (omega (arith, within))

mutual
  plan-capped : (r : Rules) (c : Catalog) (p : Plan) (t : Tree Label) → Implements r c p t → cost r p ≤ cap
  plan-capped r c (node (file name) ps) t done = omega arith
  plan-capped r c (node (algorithm n d) ps) t (s, step, is, all) =
      let costs : List ℕ = map (cost r) (list_of ps) in
      let low : cost_of s.cost costs ≤ cap = cost_in_cap s.cost costs (all-from (λ k. k ≤ cap) costs (plans-capped r c ps (asked_trees r s.asked (matched_streams r n t)) all)) in
      let reads : desc_cost r (costed r s costs) ≤ cost_of s.cost costs = set_reads r.properties (cost_name r.properties) (cost_of s.cost costs) s.before in
      let same : desc_cost r d ≡ desc_cost r (costed r s costs) = ap (desc_cost r) is in
      omega (arith, low, reads, same)

  plans-capped : (r : Rules) (c : Catalog) (ps : Trees PlanLabel) (ts : List (Tree Label)) → AllImplement r c ps ts → Every (λ k. k ≤ cap) (map (cost r) (list_of ps))
  plans-capped r c nil ts all = tt
  plans-capped r c (cons p ps) [] all = absurd all
  plans-capped r c (cons p ps) (t ∷ ts) all = (plan-capped r c p t all.0, plans-capped r c ps ts all.1)

pub costs-capped : (r : Rules) (c : Catalog) (ps : List Plan) (ts : List (Tree Label)) → AllImplement r c (trees_of ps) ts → All (λ k. k ≤ cap) (map (cost r) ps)
costs-capped r c ps ts all =
    subst (λ (qs : List Plan). All (λ k. k ≤ cap) (map (cost r) qs)) (list_of_trees_of ps) (all-from (λ k. k ≤ cap) (map (cost r) (list_of (trees_of ps))) (plans-capped r c (trees_of ps) ts all))

-- ---- an algorithm

-- over plans for the inputs after what is asked of them, at its cost
pub record Fulfils (r : Rules) (c : Catalog) (d : Desc) (ps : List Plan) (t : Tree Label) (s : IStep) : Type 0 where
  pub plans : AllImplement r c (trees_of ps) (each_asked (physical r) s.asked (inputs t))
  pub desc : d ≡ costed r s (map (cost r) ps)

pub algorithm-fulfils : (r : Rules) (c : Catalog) (n : ℕ) (d : Desc) (ps : List Plan) (t : Tree Label) (s : IStep) → spells r ≡ true → refused_by r ≡ None → i_step r c n t ≡ Some s → Implements r c (tree (algorithm n d) ps) t → Fulfils r c d ps t s
algorithm-fulfils r c n d ps t s spelled accepted step (u, other, is, all) =
    let same : u ≡ s = same_Some u s (sym other ∙ step) in
    let asked : asked_trees r u.asked (matched_streams r n t) ≡ each_asked (physical r) s.asked (inputs t) =
    ap (λ (k : IStep). asked_trees r k.asked (matched_streams r n t)) same ∙ ap (λ (ts : List (Tree Label)). each_asked (physical r) s.asked ts) (streams-inputs r c n t s spelled accepted step) in
    record {
      plans = subst (AllImplement r c (trees_of ps)) asked all;
      desc = is ∙ (ap (λ (qs : List Plan). costed r u (map (cost r) qs)) (list_of_trees_of ps) ∙ ap (λ (k : IStep). costed r k (map (cost r) ps)) same);
    }

pub algorithm-implements : (r : Rules) (c : Catalog) (n : ℕ) (d : Desc) (ps : List Plan) (t : Tree Label) (s : IStep) → spells r ≡ true → refused_by r ≡ None → i_step r c n t ≡ Some s → Fulfils r c d ps t s → Implements r c (tree (algorithm n d) ps) t
algorithm-implements r c n d ps t s spelled accepted step does = (
  s,
  step,
  does.desc ∙ ap (λ (qs : List Plan). costed r s (map (cost r) qs)) (sym (list_of_trees_of ps)),
  subst (AllImplement r c (trees_of ps)) (ap (λ (ts : List (Tree Label)). each_asked (physical r) s.asked ts) (sym (streams-inputs r c n t s spelled accepted step))) does.plans,
)

pub algorithm-none : (r : Rules) (c : Catalog) (n : ℕ) (d : Desc) (ps : List Plan) (t : Tree Label) → i_step r c n t ≡ None → Implements r c (tree (algorithm n d) ps) t → ⊥
algorithm-none r c n d ps t none (s, step, is, all) = cc
