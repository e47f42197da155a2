-- What is matched in a tree of the rules: descriptors that fit and cost nothing, and trees of the rules.
use Rattle.std.proofs.Common.{◌≡◌, Bool, true, false, cond, List, [], ◌∷◌, ◌++◌, length, map, Option, Some, None, option_map, refl, ap, sym, ◌∙◌, subst}
use Rattle.std.specs.Cmp.{first_so, second_so}
use Rattle.std.specs.Cmp.Derive.{both_true}
use Rattle.std.specs.List.{list_all, AllByRecursion as Every}
use Rattle.std.specs.Str.{bytes_eq}
use Rattle.std.proofs.lemmas.Bool.{false≢true}
use Rattle.std.proofs.lemmas.List.{length-map}
use Rattle.pr_value.proofs.Shelf.{option_map-some, option_and_then-some}
use Rattle.pr_value.specs.Symbols.{Symbol}
use Rattle.pr_value.specs.Trees.{Tree, Trees, node, nil, cons, list_of}
use Rattle.pr_value.specs.Values.{default_of, has_kind}
use Rattle.pr_value.specs.declared.kind.Kind.{Kind}
use Rattle.pr_value.specs.declared.kind.Kind.TheVariants as kind
use Rattle.pr_value.specs.declared.property.Property.{Property}
use Rattle.pr_value.specs.declared.value.Value.{Value}
use Rattle.pr_value.specs.declared.value.Value.TheVariants as value
use Rattle.action_eval.proofs.TypeLaws.{some-same}
use Rattle.catalog.specs.Contents.{Catalog}
use Rattle.descriptor_types.proofs.FitLaws.{fits-only}
use Rattle.descriptor_types.specs.Descriptors.{Desc, Mask, fits, only, value_of}
use Rattle.descriptor_types.specs.Labels.{Label, desc_in, desc_of}
use Rattle.property_classes.specs.Classes.{classes_of, is_seen}
use Rattle.rule_ast.specs.CostForms.{cost_name}
use Rattle.rule_ast.specs.Roles.{class_of}
use Rattle.rule_ast.specs.Syntax.{LeftLabel, Rules}
use Rattle.rule_ast.specs.Descs.{stream_numbers}
use Rattle.rule_runs.proofs.WholeLaws.{chosen, left-operators, left-streams, matched-whole}
use Rattle.rule_runs.specs.Conditions.{AreSlotsOf}
use Rattle.rule_runs.specs.Matching.{Matched, matched, all_matched, and_match, with_node, is_number}
use Rattle.rule_runs.specs.Sides as side
use Rattle.rule_runs.specs.Sides.{Side, SideLabel, left_side}
use Rattle.rule_trees.specs.Matches.{IsMatchOf}
use Rattle.rule_trees.specs.Steps.{op_in, tree_roots}
use Rattle.rule_trees.specs.Trees.{IsDesc, IsTree, AreTrees}
use Rattle.rule_trees.specs.Views.{seen, view_in}

-- ---- descriptors

-- where 0 is of a kind, it is its default
zero_default : (k : Kind) → has_kind k (value.Num 0) ≡ true → default_of k ≡ value.Num 0
zero_default kind.Num has = refl
zero_default kind.Cost has = refl
zero_default kind.Truth has = absurd (false≢true has)
zero_default kind.Symbol has = absurd (false≢true has)
zero_default kind.Set has = absurd (false≢true has)
zero_default kind.List has = absurd (false≢true has)

zero_here : (k : Kind) (v : Value) → v ≡ value.Num 0 → has_kind k v ≡ true → default_of k ≡ value.Num 0
zero_here k v is has = zero_default k (subst (λ (u : Value). has_kind k u ≡ true) is has)

zero_either : (b : Bool) (k : Kind) (v : Value) → v ≡ value.Num 0 → has_kind k v ≡ true → cond b v (default_of k) ≡ value.Num 0
zero_either true k v is has = is
zero_either false k v is has = zero_here k v is has

only-zero : (ps : List Property) (m : Mask) (d : Desc) (name : Symbol) → fits ps d ≡ true → value_of ps name d ≡ value.Num 0 → value_of ps name (only ps m d) ≡ value.Num 0
only-zero [] m d name fit zero = refl
only-zero (p ∷ ps) [] d name fit zero = refl
only-zero (p ∷ ps) (b ∷ bs) [] name fit zero = refl
only-zero (p ∷ ps) (b ∷ bs) (v ∷ d) name fit zero =
    elim (bytes_eq p.name name) as (λ c. cond c v (value_of ps name d) ≡ value.Num 0 → cond c (cond b v (default_of p.kind)) (value_of ps name (only ps bs d)) ≡ value.Num 0) [
      | true ↦ λ is. zero_either b p.kind v is (first_so _ _ fit)
      | false ↦ λ is. only-zero ps bs d name (second_so _ _ fit) is
    ] zero

pub length-seen : (r : Rules) → length (seen r) ≡ length r.properties
length-seen r = length-map (classes_of r) is_seen ∙ length-map r.properties (class_of r)

pub only-IsDesc : (r : Rules) (d : Desc) → IsDesc r d → IsDesc r (only r.properties (seen r) d)
only-IsDesc r d is = (fits-only r.properties (seen r) d (length-seen r) is.0, only-zero r.properties (seen r) d (cost_name r.properties) is.0 is.1)

pub desc-IsTree : (r : Rules) (c : Catalog) (t : Tree Label) → IsTree r c t → IsDesc r (desc_of t)
desc-IsTree r c (node l ts) is = is.0

pub view-IsDesc : (r : Rules) (c : Catalog) (t : Tree Label) → IsTree r c t → IsDesc r (view_in r t)
view-IsDesc r c t is = only-IsDesc r (desc_of t) (desc-IsTree r c t is)

-- ---- matches

pub every-append : {X : Type 0} (P : X → Type 0) (xs ys : List X) → Every P xs → Every P ys → Every P (xs ++ ys)
every-append P [] ys all others = others
every-append P (x ∷ xs) ys all others = (all.0, every-append P xs ys all.1 others)

-- descriptors and trees of the rules
pub record AreOf (r : Rules) (c : Catalog) (m : Matched (Tree Label)) : Type 0 where
  pub nodes : Every (IsDesc r) m.slots.nodes
  pub views : Every (IsDesc r) m.slots.streams
  pub trees : Every (IsTree r c) m.streams

with_node-AreOf : (r : Rules) (c : Catalog) (d : Desc) (m n : Matched (Tree Label)) → IsDesc r d → AreOf r c m → with_node d m ≡ n → AreOf r c n
with_node-AreOf r c d m n is of same = subst (AreOf r c) same (record { nodes = (is, of.nodes); views = of.views; trees = of.trees })

and_match-AreOf : (r : Rules) (c : Catalog) (m n k : Matched (Tree Label)) → AreOf r c m → AreOf r c n → and_match m n ≡ k → AreOf r c k
and_match-AreOf r c m n k of others same =
    subst (AreOf r c) same (record {
      nodes = every-append (IsDesc r) m.slots.nodes n.slots.nodes of.nodes others.nodes;
      views = every-append (IsDesc r) m.slots.streams n.slots.streams of.views others.views;
      trees = every-append (IsTree r c) m.streams n.streams of.trees others.trees;
    })

module _ (r : Rules) (c : Catalog) where
  mutual
    pub matched-AreOf : (p : Side) (t : Tree Label) (m : Matched (Tree Label)) → IsTree r c t → matched (tree_roots r) p t ≡ Some m → AreOf r c m
    matched-AreOf (node (side.stream n) ls) t m is e = subst (AreOf r c) (some-same e) (record { nodes = tt; views = (view-IsDesc r c t is, tt); trees = (is, tt) })
    matched-AreOf (node (side.operator op) ls) (node l ts) m is e =
        let found = option_map-some (with_node (desc_in l)) (all_matched (tree_roots r) ls (list_of ts)) m (chosen (is_number (op_in l) op) (option_map (with_node (desc_in l)) (all_matched (tree_roots r) ls (list_of ts))) m e) in
        with_node-AreOf r c (desc_in l) found.0 m is.0 (all_matched-AreOf ls ts found.0 is.2 found.1) found.2

    pub all_matched-AreOf : (ps : Trees SideLabel) (ts : Trees Label) (m : Matched (Tree Label)) → AreTrees r c ts → all_matched (tree_roots r) ps (list_of ts) ≡ Some m → AreOf r c m
    all_matched-AreOf nil nil m are e = subst (AreOf r c) (some-same e) (record { nodes = tt; views = tt; trees = tt })
    all_matched-AreOf nil (cons t ts) m are e = cc
    all_matched-AreOf (cons p ps) nil m are e = cc
    all_matched-AreOf (cons p ps) (cons t ts) m are e =
        let one = option_and_then-some (λ (k : Matched (Tree Label)). option_map (and_match k) (all_matched (tree_roots r) ps (list_of ts))) (matched (tree_roots r) p t) m e in
        let others = option_map-some (and_match one.0) (all_matched (tree_roots r) ps (list_of ts)) m one.2 in
        and_match-AreOf r c one.0 others.0 m (matched-AreOf p t one.0 are.0 one.1) (all_matched-AreOf ps ts others.0 are.1 others.1) others.2

  -- what a left side matches in a tree of the rules
  pub match-IsMatchOf : (l : Tree LeftLabel) (t : Tree Label) (m : Matched (Tree Label)) → IsTree r c t → matched (tree_roots r) (left_side r.operators l) t ≡ Some m → IsMatchOf r c l m
  match-IsMatchOf l t m is e =
      let of = matched-AreOf (left_side r.operators l) t m is e in
      let whole = matched-whole (tree_roots r) (left_side r.operators l) t m e in
      let ns = stream_numbers l in
      record {
        as_many_nodes = whole.nodes ∙ left-operators r.operators ns l;
        as_many_views = whole.views ∙ left-streams r.operators ns l;
        as_many_streams = whole.streams ∙ left-streams r.operators ns l;
        nodes = of.nodes;
        views = of.views;
        trees = of.trees;
      }

-- the slots fit
pub every-fits : (r : Rules) (ds : List Desc) → Every (IsDesc r) ds → list_all (fits r.properties) ds ≡ true
every-fits r [] all = refl
every-fits r (d ∷ ds) all = both_true all.0.0 (every-fits r ds all.1)

pub match-slots : (r : Rules) (c : Catalog) (l : Tree LeftLabel) (m : Matched (Tree Label)) → IsMatchOf r c l m → AreSlotsOf r l m.slots
match-slots r c l m is = record {
  nodes = is.as_many_nodes;
  streams = is.as_many_views;
  nodes_fit = every-fits r m.slots.nodes is.nodes;
  streams_fit = every-fits r m.slots.streams is.views;
}
