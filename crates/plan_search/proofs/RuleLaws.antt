-- The cheapest plan by one rule, from cheapest plans of what it asks for.
use Rattle.std.proofs.Common.{◌≡◌, ℕ, zero, suc, ◌≤◌, Bool, true, false, cond, List, [], ◌∷◌, ◌++◌, length, map, Some, None, refl, ap, sym, ◌∙◌, subst, arith}
use Rattle.std.specs.Prelude.{slice_get}
use Rattle.std.specs.List.{AllZip}
use Rattle.std.specs.Str.{bytes_eq}
use Rattle.std.proofs.lemmas.Option.{same_Some, slice_get_read}
use Rattle.action_eval.proofs.CostLaws.{cost_rises}
use Rattle.action_eval.specs.Cost.{IStep, cost_of}
use Rattle.catalog.specs.Contents.{Catalog}
use Rattle.descriptor_types.specs.Descriptors.{Desc, Layout, value_of, with_value}
use Rattle.descriptor_types.specs.Labels.{Label}
use Rattle.pr_value.specs.Symbols.{Symbol}
use Rattle.pr_value.specs.Trees.{Tree, Trees, node, nil, cons, list_of, trees_of}
use Rattle.pr_value.specs.Values.{number_in}
use Rattle.pr_value.specs.declared.property.Property.{Property}
use Rattle.pr_value.specs.declared.value.Value.{Value}
use Rattle.pr_value.specs.declared.value.Value.TheVariants as value
use Rattle.rule_ast.specs.CostForms.{cost_name}
use Rattle.rule_ast.specs.Syntax.{Rules}
use Rattle.rule_trees.specs.Steps.{i_step}
use Rattle.plan_form.proofs.PlanByLaws.{plan_by-implements}
use Rattle.plan_form.specs.Plans.{Plan, PlanLabel, file, algorithm, AllImplement, Best, Implements, NoPlan, asked_trees, cost, costed, desc_cost, matched_streams, plan_by}
use Rattle.plan_search.specs.Search.{AllBest, AreBest, IsBestBy, IsBy}

-- ---- a descriptor's cost rises with the cost that it is given

-- what is read of a descriptor whose cost was set
abbrev read_set : Layout → Symbol → Desc → ℕ → ℕ
read_set l name d n = number_in (value_of l name (with_value l name (value.Num n) d))

set_first-rises : (b : Bool) (p : Property) (ps : Layout) (name : Symbol) (low high : ℕ) (v : Value) (d : Desc) → bytes_eq p.name name ≡ b → low ≤ high → read_set ps name d low ≤ read_set ps name d high → read_set (p ∷ ps) name (v ∷ d) low ≤ read_set (p ∷ ps) name (v ∷ d) high
set_first-rises true p ps name low high v d e le rest =
    elim (bytes_eq p.name name) as (λ b. b ≡ true → number_in (value_of (p ∷ ps) name (cond b (value.Num low ∷ d) (v ∷ with_value ps name (value.Num low) d))) ≤ number_in (value_of (p ∷ ps) name (cond b (value.Num high ∷ d) (v ∷ with_value ps name (value.Num high) d)))) [
      | true ↦ λ f. subst (λ b. number_in (cond b (value.Num low) (value_of ps name d)) ≤ number_in (cond b (value.Num high) (value_of ps name d))) (sym e) le
      | false ↦ λ f. cc
    ] e
set_first-rises false p ps name low high v d e le rest =
    elim (bytes_eq p.name name) as (λ b. b ≡ false → number_in (value_of (p ∷ ps) name (cond b (value.Num low ∷ d) (v ∷ with_value ps name (value.Num low) d))) ≤ number_in (value_of (p ∷ ps) name (cond b (value.Num high ∷ d) (v ∷ with_value ps name (value.Num high) d)))) [
      | true ↦ λ f. cc
      | false ↦ λ f. subst (λ b. number_in (cond b v (value_of ps name (with_value ps name (value.Num low) d))) ≤ number_in (cond b v (value_of ps name (with_value ps name (value.Num high) d)))) (sym e) rest
    ] e

set-rises : (l : Layout) (name : Symbol) (low high : ℕ) (d : Desc) → low ≤ high → read_set l name d low ≤ read_set l name d high
set-rises [] name low high d le = omega arith
set-rises (p ∷ ps) name low high [] le = omega arith
set-rises (p ∷ ps) name low high (v ∷ d) le = set_first-rises (bytes_eq p.name name) p ps name low high v d refl le (set-rises ps name low high d le)

costed-rises : (r : Rules) (s : IStep) (low high : List ℕ) → AllZip (λ x y. x ≤ y) low high → desc_cost r (costed r s low) ≤ desc_cost r (costed r s high)
costed-rises r s low high le = set-rises r.properties (cost_name r.properties) (cost_of s.cost low) (cost_of s.cost high) s.before (cost_rises s.cost low high le)

module _ (r : Rules) (c : Catalog) where
  -- ---- plans for the trees that are asked for

  pub AllBest-long : (ts : List (Tree Label)) (ps : List Plan) → AllBest r c ts ps → length ps ≡ length ts
  AllBest-long [] [] all = refl
  AllBest-long [] (p ∷ ps) all = absurd all
  AllBest-long (t ∷ ts) [] all = absurd all
  AllBest-long (t ∷ ts) (p ∷ ps) all = ap suc (AllBest-long ts ps all.1)

  pub AllBest-push : (ts : List (Tree Label)) (ps : List Plan) (t : Tree Label) (p : Plan) → AllBest r c ts ps → Best r c t p → AllBest r c (ts ++ t ∷ []) (ps ++ p ∷ [])
  AllBest-push [] [] t p all best = (best, tt)
  AllBest-push [] (q ∷ ps) t p all best = absurd all
  AllBest-push (u ∷ ts) [] t p all best = absurd all
  AllBest-push (u ∷ ts) (q ∷ ps) t p all best = (all.0, AllBest-push ts ps t p all.1 best)

  pub all_implement : (ts : List (Tree Label)) (ps : List Plan) → AllBest r c ts ps → AllImplement r c (trees_of ps) ts
  all_implement [] [] all = tt
  all_implement [] (p ∷ ps) all = absurd all
  all_implement (t ∷ ts) [] all = absurd all
  all_implement (t ∷ ts) (p ∷ ps) all = (all.0.0, all_implement ts ps all.1)

  -- other plans cost no less
  all_least : (ts : List (Tree Label)) (ps : List Plan) (os : Trees PlanLabel) → AllBest r c ts ps → AllImplement r c os ts → AllZip (λ x y. x ≤ y) (map (cost r) ps) (map (cost r) (list_of os))
  all_least [] [] nil all done = tt
  all_least [] [] (cons o os) all done = absurd done
  all_least [] (p ∷ ps) os all done = absurd all
  all_least (t ∷ ts) [] os all done = absurd all
  all_least (t ∷ ts) (p ∷ ps) nil all done = absurd done
  all_least (t ∷ ts) (p ∷ ps) (cons o os) all done = (all.0.1 o done.0, all_least ts ps os all.1 done.1)

  -- a tree without a plan is among them
  none_implement : (ts : List (Tree Label)) (k : ℕ) (t : Tree Label) (os : Trees PlanLabel) → slice_get ts k ≡ Some t → NoPlan r c t → AllImplement r c os ts → ⊥
  none_implement [] k t os at none done = cc
  none_implement (u ∷ ts) k t nil at none done = done
  none_implement (u ∷ ts) zero t (cons o os) at none done = none o (subst (Implements r c o) (same_Some u t at) done.0)
  none_implement (u ∷ ts) (suc k) t (cons o os) at none done = none_implement ts k t os at none done.1

  -- ---- plans by a rule

  -- what a plan by the rule is made of
  record IsMade (n : ℕ) (t : Tree Label) (s : IStep) (p : Plan) : Type 0 where
    inputs : Trees PlanLabel
    plans : AllImplement r c inputs (asked_trees r s.asked (matched_streams r n t))
    is : cost r p ≡ desc_cost r (costed r s (map (cost r) (list_of inputs)))

  by-IsMade : (n : ℕ) (t : Tree Label) (s : IStep) (p : Plan) → i_step r c n t ≡ Some s → Implements r c p t → IsBy n p → IsMade n t s p
  by-IsMade n t s (node (file name) ps) step done by = absurd by
  by-IsMade n t s (node (algorithm m d) ps) step (u, other, is, all) by =
      let there : i_step r c n t ≡ Some u = ap (λ k. i_step r c k t) (sym by) ∙ other in
      let same : u ≡ s = same_Some u s (sym there ∙ step) in
      record {
        inputs = ps;
        plans = subst (λ (k : IStep). AllImplement r c ps (asked_trees r k.asked (matched_streams r n t))) same (subst (λ k. AllImplement r c ps (asked_trees r u.asked (matched_streams r k t))) by all);
        is = ap (desc_cost r) is ∙ ap (λ (k : IStep). desc_cost r (costed r k (map (cost r) (list_of ps)))) same;
      }

  -- the rule does not apply
  pub none-IsBestBy : (n : ℕ) (t : Tree Label) → i_step r c n t ≡ None → IsBestBy r c t n None
  none-IsBestBy n t none (node (file name) ps) h = h.1
  none-IsBestBy n t none (node (algorithm m d) ps) ((s, step, is, all), by) =
      let there : i_step r c n t ≡ Some s = ap (λ k. i_step r c k t) (sym by) ∙ step in
      let differ : None ≡ Some s = sym none ∙ there in cc

  -- what it asks for has no plan
  pub missing-IsBestBy : (n : ℕ) (t : Tree Label) (s : IStep) → i_step r c n t ≡ Some s → AreBest r c (asked_trees r s.asked (matched_streams r n t)) None → IsBestBy r c t n None
  missing-IsBestBy n t s step (u, (k, within, at), none) p h =
      let made = by-IsMade n t s p step h.0 h.1 in
      let trees : List (Tree Label) = asked_trees r s.asked (matched_streams r n t) in
      none_implement trees k u made.inputs (slice_get_read trees (length trees) k u refl within (sym at)) none made.plans

  -- what it asks for is planned best
  pub plan_by-IsBestBy : (n : ℕ) (t : Tree Label) (s : IStep) (ps : List Plan) → i_step r c n t ≡ Some s → AllBest r c (asked_trees r s.asked (matched_streams r n t)) ps → IsBestBy r c t n (Some (plan_by r n s ps))
  plan_by-IsBestBy n t s ps step all = ((plan_by-implements r c n t s ps step (all_implement (asked_trees r s.asked (matched_streams r n t)) ps all), refl), least) where
    least : (o : Plan) → Implements r c o t × IsBy n o → cost r (plan_by r n s ps) ≤ cost r o
    least o h =
        let made = by-IsMade n t s o step h.0 h.1 in
        let le = costed-rises r s (map (cost r) ps) (map (cost r) (list_of made.inputs)) (all_least (asked_trees r s.asked (matched_streams r n t)) ps made.inputs all made.plans) in
        omega (arith, le, made.is)
