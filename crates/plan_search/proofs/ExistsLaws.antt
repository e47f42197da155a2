-- Each tree has a plan of least cost, or no plan at all.
use Rattle.std.proofs.Common.{◌≡◌, ℕ, zero, suc, ◌+◌, ◌<◌, ◌≤◌, Bool, true, false, List, [], ◌∷◌, length, Option, Some, None, option_map, refl, ap, sym, ◌∙◌, subst, arith}
use Rattle.std.proofs.lemmas.Bool.{false≢true}
use Rattle.action_eval.specs.Cost.{IStep}
use Rattle.catalog.specs.Contents.{Catalog}
use Rattle.descriptor_types.specs.Descriptors.{Desc, only, same_desc}
use Rattle.descriptor_types.specs.EqualityLaws.{same_desc-Decides}
use Rattle.descriptor_types.specs.Labels.{Label}
use Rattle.descriptor_types.specs.Labels as label
use Rattle.pr_value.specs.Symbols.{Symbol}
use Rattle.pr_value.specs.Trees.{Tree, node, nil, cons, height, highest, tree, trees_of}
use Rattle.rule_ast.specs.Spelled.{spells}
use Rattle.rule_ast.specs.Syntax.{Rules}
use Rattle.rule_types.specs.Conditions.{refused_by}
use Rattle.rule_trees.specs.Steps.{i_step}
use Rattle.rule_trees.specs.Trees.{IsTree}
use Rattle.rule_trees.specs.Views.{physical}
use Rattle.plan_form.proofs.StepLaws.{streams-inputs}
use Rattle.plan_form.specs.Plans.{Plan, file, IsAnswer, asked_trees, cost, each_asked, listed_desc, matched_streams, plan_by}
use Rattle.plan_search.proofs.FileLaws.{file-none, file-some, inputs-none, operator-none}
use Rattle.plan_search.proofs.HeightLaws.{asked-lower}
use Rattle.plan_search.proofs.LeastLaws.{all-IsAnswer, lesser-IsBestBelow}
use Rattle.plan_search.proofs.RuleLaws.{missing-IsBestBy, none-IsBestBy, plan_by-IsBestBy}
use Rattle.plan_search.specs.Search.{AreBest, IsBestBelow, IsBestBy, lesser}

module _ (r : Rules) (c : Catalog) where
  -- ---- files

  of_file : (name : Symbol) (d : Desc) → (o : Option Plan) × IsBestBelow r c (tree (label.file name d) []) 0 o
  of_file name d = by_test (same_desc mine listed) refl where
    mine : Desc
    mine = only r.properties (physical r) d

    listed : Desc
    listed = only r.properties (physical r) (listed_desc r c name)

    by_test : (b : Bool) → same_desc mine listed ≡ b → (o : Option Plan) × IsBestBelow r c (tree (label.file name d) []) 0 o
    by_test true e = (Some (tree (file name) []), file-some r c (tree (label.file name d) []) name (refl, (same_desc-Decides mine listed).0 e))
    by_test false e = (None, file-none r c name d (λ done. absurd (false≢true (sym e ∙ (same_desc-Decides mine listed).1 done.1))))

  by_files : (t : Tree Label) → (o : Option Plan) × IsBestBelow r c t 0 o
  by_files (node (label.file name d) nil) = of_file name d
  by_files (node (label.file name d) (cons t ts)) = (None, inputs-none r c name d t ts)
  by_files (node (label.operator op d) ts) = (None, operator-none r c op d ts)

  -- ---- plans for all trees that are asked for

  abbrev Answered : ℕ → Type 0
  Answered k = (t : Tree Label) → height t ≤ k → (o : Option Plan) × IsAnswer r c t o

  one_more : (t : Tree Label) (ts : List (Tree Label)) → ((o : Option Plan) × IsAnswer r c t o) → ((o : Option (List Plan)) × AreBest r c ts o) → (o : Option (List Plan)) × AreBest r c (t ∷ ts) o
  one_more t ts (None, none) others = (None, (t, (0, omega arith, refl), none))
  one_more t ts (Some p, best) (Some ps, all) = (Some (p ∷ ps), (best, all))
  one_more t ts (Some p, best) (None, (other, (k, within, at), none)) = (None, (other, (suc k, omega (arith, within), at), none))

  all_answered : (k : ℕ) → Answered k → (ts : List (Tree Label)) → highest (trees_of ts) ≤ k → (o : Option (List Plan)) × AreBest r c ts o
  all_answered k answered [] low = (Some [], tt)
  all_answered k answered (t ∷ ts) low = one_more t ts (answered t (omega (arith, low))) (all_answered k answered ts (omega (arith, low)))

  -- ---- by one rule, and by all

  by_plans : (n : ℕ) (t : Tree Label) (s : IStep) → i_step r c n t ≡ Some s → ((o : Option (List Plan)) × AreBest r c (asked_trees r s.asked (matched_streams r n t)) o) → (o : Option Plan) × IsBestBy r c t n o
  by_plans n t s step (None, none) = (None, missing-IsBestBy r c n t s step none)
  by_plans n t s step (Some ps, all) = (Some (plan_by r n s ps), plan_by-IsBestBy r c n t s ps step all)

  module _ (spelled : spells r ≡ true) (accepted : refused_by r ≡ None) where
    by_step : (k : ℕ) → Answered k → (t : Tree Label) → height t ≤ suc k → (n : ℕ) (o : Option IStep) → i_step r c n t ≡ o → (o : Option Plan) × IsBestBy r c t n o
    by_step k answered t low n None step = (None, none-IsBestBy r c n t step)
    by_step k answered t low n (Some s) step =
        let trees : List (Tree Label) = asked_trees r s.asked (matched_streams r n t) in
        let below : highest (trees_of trees) < height t =
        subst (λ (ts : List (Tree Label)). highest (trees_of (each_asked (physical r) s.asked ts)) < height t) (sym (streams-inputs r c n t s spelled accepted step)) (asked-lower (physical r) s.asked t) in
        by_plans n t s step (all_answered k answered trees (omega (arith, below, low)))

    among : (k : ℕ) → Answered k → (t : Tree Label) → height t ≤ suc k → (n : ℕ) → (o : Option Plan) × IsBestBelow r c t n o
    among k answered t low zero = by_files t
    among k answered t low (suc n) =
        let before = among k answered t low n in
        let other = by_step k answered t low n (i_step r c n t) refl in
        let next : n + 1 ≡ suc n = omega arith in
        (lesser (cost r) before.0 other.0, subst (λ m. IsBestBelow r c t m (lesser (cost r) before.0 other.0)) next (lesser-IsBestBelow r c t n before.0 other.0 before.1 other.1))

    answered : (k : ℕ) → Answered k
    answered zero (node l ts) low = absurd (omega (arith, low))
    answered (suc k) t low = let best = among k (answered k) t low (length r.irules) in (best.0, all-IsAnswer r c t best.0 best.1)

pub answer_exists : (r : Rules) (c : Catalog) (t : Tree Label) → spells r ≡ true → refused_by r ≡ None → IsTree r c t → (o : Option Plan) × IsAnswer r c t o
answer_exists r c t spelled accepted is = answered r c spelled accepted (height t) t (omega arith)

-- two answers of one tree cost the same
pub one_answer : (r : Rules) (c : Catalog) (t : Tree Label) (o u : Option Plan) → IsAnswer r c t o → IsAnswer r c t u → option_map (cost r) o ≡ option_map (cost r) u
one_answer r c t None None none other = refl
one_answer r c t None (Some q) none best = absurd (none q best.0)
one_answer r c t (Some p) None best none = absurd (none p best.0)
one_answer r c t (Some p) (Some q) best other =
    let low = best.1 q other.0 in
    let high = other.1 p best.0 in
    let same : cost r p ≡ cost r q = omega (arith, low, high) in ap Some same
