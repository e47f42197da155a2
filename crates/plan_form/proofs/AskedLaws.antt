-- The trees of the rules stay so after what is asked of them.
use Rattle.std.proofs.Common.{◌≡◌, ℕ, zero, suc, ◌+◌, ◌≤◌, min, true, false, cond, List, [], ◌∷◌, ◌++◌, length, map, take, Some, None, ap, sym, ◌∙◌, subst}
use Rattle.std.specs.Prelude.{slice_get, zip}
use Rattle.std.specs.Cmp.{first_so, second_so}
use Rattle.std.specs.List.{list_all}
use Rattle.std.proofs.lemmas.List.{map-append}
use Rattle.std.proofs.lemmas.Option.{same_Some}
use Rattle.pr_value.proofs.TreeLaws.{trees_of_list_of}
use Rattle.pr_value.specs.Trees.{Tree, node, inputs, trees_of}
use Rattle.catalog.specs.Contents.{Catalog}
use Rattle.descriptor_types.specs.Descriptors.{Desc, Mask, fits}
use Rattle.descriptor_types.specs.Labels.{Label, ask}
use Rattle.rule_ast.specs.Syntax.{Rules}
use Rattle.rule_types.specs.Conditions.{refused_by}
use Rattle.rule_trees.specs.Trees.{IsTree, AreTrees}
use Rattle.tree_terms.proofs.GoalLaws.{ask-IsTree}
use Rattle.rule_trees.specs.Views.{physical}
use Rattle.plan_form.proofs.PairLaws.{zip-more, zip-all}
use Rattle.plan_form.specs.Plans.{each_asked}

-- ---- lists of trees

pub inputs-AreTrees : (r : Rules) (c : Catalog) (t : Tree Label) → IsTree r c t → AreTrees r c (trees_of (inputs t))
inputs-AreTrees r c (node l ts) is = subst (AreTrees r c) (sym (trees_of_list_of ts)) is.2

pub each-AreTrees : (r : Rules) (c : Catalog) (ws : List Desc) (ts : List (Tree Label)) → refused_by r ≡ None → list_all (fits r.properties) ws ≡ true → AreTrees r c (trees_of ts) → AreTrees r c (trees_of (each_asked (physical r) ws ts))
each-AreTrees r c [] ts accepted fit are = tt
each-AreTrees r c (w ∷ ws) [] accepted fit are = tt
each-AreTrees r c (w ∷ ws) (t ∷ ts) accepted fit are = (ask-IsTree r c w t accepted (first_so _ _ fit) are.0, each-AreTrees r c ws ts accepted (second_so _ _ fit) are.1)

pub trees-at : (r : Rules) (c : Catalog) (ts : List (Tree Label)) (i : ℕ) (t : Tree Label) → AreTrees r c (trees_of ts) → slice_get ts i ≡ Some t → IsTree r c t
trees-at r c [] i t are at = cc
trees-at r c (u ∷ ts) zero t are at = subst (IsTree r c) (same_Some u t at) are.0
trees-at r c (u ∷ ts) (suc i) t are at = trees-at r c ts i t are.1 at

-- ---- one after another

abbrev pair_asked : Mask → Desc × Tree Label → Tree Label
pair_asked m p = ask m p.0 p.1

pub asked_more : (m : Mask) (ws : List Desc) (ts made : List (Tree Label)) (i : ℕ) (w : Desc) (t u : Tree Label) → slice_get ws i ≡ Some w → slice_get ts i ≡ Some t → made ≡ each_asked m (take i ws) ts → u ≡ ask m w t
    → made ++ u ∷ [] ≡ each_asked m (take (i + 1) ws) ts
asked_more m ws ts made i w t u first second before is =
    ap (λ (us : List (Tree Label)). us ++ u ∷ []) before ∙ (ap (λ (x : Tree Label). each_asked m (take i ws) ts ++ x ∷ []) is
    ∙ sym (ap (map (pair_asked m)) (zip-more ws ts i w t first second) ∙ map-append (pair_asked m) (zip (take i ws) ts) ((w, t) ∷ [])))

pub asked_all : (m : Mask) (ws : List Desc) (ts made : List (Tree Label)) (n : ℕ) → min (length ws) (length ts) ≤ n → made ≡ each_asked m (take n ws) ts → made ≡ each_asked m ws ts
asked_all m ws ts made n past is = is ∙ ap (map (pair_asked m)) (zip-all ws ts n past)

pub seen-at : {X Y : Type 0} (f : X → Y) (xs : List X) (i : ℕ) (x : X) → slice_get xs i ≡ Some x → slice_get (map f xs) i ≡ Some (f x)
seen-at f [] i x at = cc
seen-at f (y ∷ xs) zero x at = ap (λ z. Some (f z)) (same_Some y x at)
seen-at f (y ∷ xs) (suc i) x at = seen-at f xs i x at
