-- What a right side makes of descriptors and trees of the rules is a tree of the rules.
use Rattle.std.proofs.Common.{◌≡◌, ℕ, zero, suc, ◌+◌, ◌<◌, ◌≤◌, Bool, true, false, cond, ◌||◌, List, [], ◌∷◌, length, map, get_or, Option, Some, unwrap_or, slice_get, refl, ap, sym, ◌∙◌, subst, arith, Bor}
use Rattle.std.specs.Prelude.{◌==◌, ⊤}
use Rattle.std.specs.List.{list_any, AllByRecursion as Every}
use Rattle.std.proofs.lemmas.Bool.{false≢true, not-false}
use Rattle.std.proofs.lemmas.Bool.Decides.{Decides-eqb}
use Rattle.action_eval.proofs.PlainLaws.{or_first, or_second}
use Rattle.catalog.specs.Contents.{Catalog}
use Rattle.descriptor_types.specs.Descriptors.{Desc}
use Rattle.descriptor_types.specs.Labels.{Label, file, operator, seen_tree}
use Rattle.descriptor_types.specs.declared.tree.Tree as code
use Rattle.pr_value.proofs.TreeLaws.{list_of_trees_of}
use Rattle.pr_value.specs.Repeats.{are_distinct}
use Rattle.pr_value.specs.Trees.{Tree, Trees, node, nil, cons, tree, list_of, trees_of}
use Rattle.rule_ast.specs.Syntax.{RightLabel, Operator, Rules}
use Rattle.rule_runs.proofs.MakeLaws.{left-over, made-long}
use Rattle.rule_runs.specs.Laws.{AllSuffice, AreWithin, IsWithin, Suffice, operators_of, all_operators_of}
use Rattle.rule_runs.specs.Sides as side
use Rattle.rule_runs.specs.Sides.{Side, SideLabel, place_in, right_side_in, right_sides_in}
use Rattle.rule_types.specs.Conditions.{has_number, is_unknown_right, operator_names, wrong_right}
use Rattle.rule_types.specs.Uses.{any_node, any_nodes}
use Rattle.rule_trees.proofs.AcceptedFacts.{slice_get-map}
use Rattle.rule_trees.proofs.OperatorLaws.{stands-takes}
use Rattle.rule_trees.specs.Arities.{operator_named}
use Rattle.rule_trees.specs.Steps.{tree_with, trees_with}
use Rattle.rule_trees.specs.Arities.{HaveArities, IsOfArities}
use Rattle.rule_trees.specs.Trees.{IsDesc, IsTree, AreTrees}

-- ---- the right sides of accepted rules

module _ (r : Rules) (ns : List ℕ) where
  sides-long : (rs : Trees RightLabel) → length (list_of (right_sides_in r.operators ns rs)) ≡ length (list_of rs)
  sides-long nil = refl
  sides-long (cons x rs) = ap suc (sides-long rs)

  module _ (distinct : are_distinct (operator_names r.operators) ≡ true) where
    mutual
      pub right-arities : (x : Tree RightLabel) → any_node (wrong_right r) x ≡ false → IsOfArities r (right_side_in r.operators ns x)
      right-arities (node (RightLabel.operator o d) rs) right =
          let stands = stands-takes r.operators o (length (list_of rs)) distinct (not-false _ (or_first _ _ right)) in
          ((operator_named r.operators o, stands.at, stands.views ∙ sym (sides-long rs)), rights-arities rs (or_second _ _ right))
      right-arities (node (RightLabel.stream n) rs) right = tt

      rights-arities : (rs : Trees RightLabel) → any_nodes (wrong_right r) rs ≡ false → HaveArities r (right_sides_in r.operators ns rs)
      rights-arities nil right = tt
      rights-arities (cons x rs) right = (right-arities x (or_first _ _ right), rights-arities rs (or_second _ _ right))

-- a number that is one of these has its place
place-within : (ns : List ℕ) (n : ℕ) → has_number ns n ≡ true → place_in ns n < length ns
place-within [] n has = absurd (false≢true has)
place-within (m ∷ ms) n has = by (m == n) refl (λ later. place-within ms n later) where
  swapped : (n == m) ≡ true → (m == n) ≡ true
  swapped e = (Decides-eqb m n).1 (sym ((Decides-eqb n m).0 e))

  either : (a : Bool) → (n == m) ≡ a → (m == n) ≡ false → (a || has_number ms n) ≡ true → has_number ms n ≡ true
  either true here other e = absurd (false≢true (sym other ∙ swapped here))
  either false here other e = e

  by : (b : Bool) → (m == n) ≡ b → (has_number ms n ≡ true → place_in ms n < length ms) → cond b 0 (suc (place_in ms n)) < suc (length ms)
  by true e rest = omega arith
  by false e rest = let h = rest (either (n == m) refl e has) in omega (arith, h)

module _ (r : Rules) (ns : List ℕ) where
  mutual
    pub right-within : (x : Tree RightLabel) → any_node (is_unknown_right r ns) x ≡ false → IsWithin (length ns) (right_side_in r.operators ns x)
    right-within (node (RightLabel.operator o d) rs) known = rights-within rs (or_second _ _ known)
    right-within (node (RightLabel.stream n) rs) known = place-within ns n (not-false _ (or_first _ _ known))

    rights-within : (rs : Trees RightLabel) → any_nodes (is_unknown_right r ns) rs ≡ false → AreWithin (length ns) (right_sides_in r.operators ns rs)
    rights-within nil known = tt
    rights-within (cons x rs) known = (right-within x (or_first _ _ known), rights-within rs (or_second _ _ known))

-- ---- what is made

every-at : {X : Type 0} (P : X → Type 0) (xs : List X) (i : ℕ) (d : X) → i < length xs → Every P xs → P (unwrap_or (slice_get xs i) d)
every-at P [] i d within all = absurd (omega (arith, within))
every-at P (x ∷ xs) zero d within all = all.0
every-at P (x ∷ xs) (suc i) d within all = every-at P xs i d (omega (arith, within)) all.1

module _ (r : Rules) (c : Catalog) (streams : List (Tree Label)) (all : Every (IsTree r c) streams) where
  mutual
    pub made-IsTree : (s : Side) (ds : List Desc) → IsOfArities r s → Suffice (length streams) (length ds) s → Every (IsDesc r) ds → IsTree r c (tree_with streams s ds).0 × Every (IsDesc r) (tree_with streams s ds).1
    made-IsTree (node (side.operator op) rs) [] right enough are = let e = enough.nodes in absurd (omega (arith, e))
    made-IsTree (node (side.operator op) rs) (d ∷ ds) right enough are =
        let e = enough.nodes in
        let rest = all_made-AreTrees rs ds right.1 (record { nodes = omega (arith, e); within = enough.within }) are.1 in
        let long : length (list_of (trees_of (trees_with streams rs ds).0)) ≡ length (list_of rs) = ap length (list_of_trees_of (trees_with streams rs ds).0) ∙ made-long (λ op e ts. tree (operator op e) ts) (tree (file [] []) []) streams rs ds in
        ((are.0, (right.0.0, right.0.1, right.0.2 ∙ sym long), rest.0), rest.1)
    made-IsTree (node (side.stream n) rs) ds right enough are = (every-at (IsTree r c) streams n (tree (file [] []) []) enough.within all, are)

    pub all_made-AreTrees : (ss : Trees SideLabel) (ds : List Desc) → HaveArities r ss → AllSuffice (length streams) (length ds) ss → Every (IsDesc r) ds → AreTrees r c (trees_of (trees_with streams ss ds).0) × Every (IsDesc r) (trees_with streams ss ds).1
    all_made-AreTrees nil ds right enough are = (tt, are)
    all_made-AreTrees (cons s ss) ds right enough are =
        let e = enough.nodes in
        let one = made-IsTree s ds right.0 (record { nodes = omega (arith, e); within = enough.within.0 }) are in
        let over_first = left-over (λ op d ts. tree (operator op d) ts) (tree (file [] []) []) streams s ds (omega (arith, e)) in
        let rest = all_made-AreTrees ss (tree_with streams s ds).1 right.1 (record { nodes = omega (arith, e, over_first); within = enough.within.1 }) one.1 in
        ((one.0, rest.0), rest.1)

-- ---- as the code makes it

pub stream-made : (bs : List (Bor code.Tree)) (s : Side) (place : ℕ) (b : Bor code.Tree) (x : code.Tree) (ds : List Desc) → s ≡ tree (side.stream place) [] → place < length bs → b ≡ get_or bs place b → x ≡ b.now
    → (seen_tree x, ds) ≡ tree_with (map (λ t. seen_tree t.now) bs) s ds
stream-made bs s place b x ds is within at same =
    let ts = map (λ t. seen_tree t.now) bs in
    let there : slice_get ts place ≡ Some (seen_tree b.now) = slice_get-map (λ (t : Bor code.Tree). seen_tree t.now) bs place b within at in
    sym (ap (λ p. tree_with ts p ds) is ∙ (ap (λ (o : Option (Tree Label)). (unwrap_or o (tree (file [] []) []), ds)) there ∙ ap (λ (y : code.Tree). (seen_tree y, ds)) (sym same)))

pub stream-within : (k : ℕ) (s : Side) (place : ℕ) → s ≡ tree (side.stream place) [] → IsWithin k s → place < k
stream-within k s place is within = subst (IsWithin k) is within
