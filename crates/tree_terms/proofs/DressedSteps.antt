-- On a tree of the rules, a step with views is the step: related things match alike, and what is made
-- of related things is related.
use Rattle.std.proofs.Common.{◌≡◌, ℕ, zero, suc, Bool, true, false, ◌&&◌, List, [], ◌∷◌, ◌++◌, map, Option, Some, None, option_map, slice_get, refl, ap, sym, ◌∙◌, subst}
use Rattle.std.specs.Prelude.{option_and_then, unwrap_or, if◌then◌else◌}
use Rattle.std.specs.List.{AllZip, list_all}
use Rattle.std.proofs.lemmas.List.Folds.{list_all-append}
use Rattle.catalog.specs.Contents.{Catalog}
use Rattle.descriptor_types.specs.Descriptors.{Desc, fits, only}
use Rattle.descriptor_types.specs.Labels.{Label, file, operator, desc_in}
use Rattle.pr_value.specs.Trees.{Tree, node, Trees, nil, cons, tree, label, inputs, list_of, trees_of, map_trees}
use Rattle.tree_terms.proofs.DressedTrees.{some_is}
use Rattle.tree_terms.specs.Dressed.{dressed, dressed_step, dressed_roots, dressed_stepped, fit_rewritten, are_fit}
use Rattle.tree_terms.specs.DressedLaws.{StepsAreDressed}
use Rattle.rule_trees.specs.Steps.{step, stepped_on, rewritten_on, tree_roots, tree_made, op_in}
use Rattle.tree_terms.specs.TreeLabels.{plain_label, dressed_label}
use Rattle.rule_trees.specs.Trees.{IsTree, AreTrees}
use Rattle.rule_trees.specs.Views.{seen}
use Rattle.tree_terms.specs.declared.labels.TreeLabel.{TreeLabel}
use Rattle.rule_runs.proofs.MatchLaws.{matched_alike}
use Rattle.rule_runs.specs.Laws.{LookAlike, MatchAlike}
use Rattle.rule_runs.specs.Making.{made_with, all_made_with}
use Rattle.rule_runs.specs.Matching.{Matched, matched, all_matched, with_node, and_match, is_number}
use Rattle.rule_runs.specs.Runs.{trule_made}
use Rattle.rule_runs.specs.Sides.{Side, SideLabel, left_side, right_side}
use Rattle.rule_runs.specs.Sides as side
use Rattle.rule_ast.specs.Syntax.{TRule, Rules}

plain_dressed : (r : Rules) (l : Label) → plain_label (dressed_label r l) ≡ l
plain_dressed r (file name d) = refl
plain_dressed r (operator op d) = refl

if_some : {A : Type 0} (b : Bool) (o : Option A) (x : A) → (if b then o else None) ≡ Some x → o ≡ Some x
if_some true o x e = e
if_some false o x e = absurd (nothing e)
  where
    nothing : None ≡ Some x → ⊥
    nothing e = cc

map_some : {A B : Type 0} (f : A → B) (o : Option A) (y : B) → option_map f o ≡ Some y → (x : A) × (o ≡ Some x) × (f x ≡ y)
map_some f None y e = absurd (nothing e)
  where
    nothing : None ≡ Some y → ⊥
    nothing e = cc
map_some f (Some x) y e = (x, refl, some_is (f x) y e)

then_some : {A B : Type 0} (f : A → Option B) (o : Option A) (y : B) → option_and_then f o ≡ Some y → (x : A) × (o ≡ Some x) × (f x ≡ Some y)
then_some f None y e = absurd (nothing e)
  where
    nothing : None ≡ Some y → ⊥
    nothing e = cc
then_some f (Some x) y e = (x, refl, e)

both_true : (a b : Bool) → a ≡ true → b ≡ true → (a && b) ≡ true
both_true a b e f = (λ i. e i && f i)

module _ (r : Rules) (c : Catalog) where
  abbrev dress : Label → TreeLabel
  dress = dressed_label r

  -- a tree of the rules, and the same with views
  abbrev R : Tree Label → Tree TreeLabel → Type 0
  R t v = (v ≡ dressed r t) × IsTree r c t

  all_related : (ts : Trees Label) → AreTrees r c ts → AllZip R (list_of ts) (list_of (map_trees dress ts))
  all_related nil h = tt
  all_related (cons t ts) h = ((refl, h.0), all_related ts h.1)

  inputs_related : (t : Tree Label) (v : Tree TreeLabel) → R t v → AllZip R (inputs t) (inputs v)
  inputs_related (node l ts) v (e, is) = subst (λ x. AllZip R (list_of ts) (inputs x)) (sym e) (all_related ts is.2)

  label_is : (t : Tree Label) (v : Tree TreeLabel) → R t v → plain_label (label v) ≡ label t
  label_is (node l ts) v (e, is) = ap (λ x. plain_label (label x)) e ∙ plain_dressed r l

  look_alike : LookAlike (tree_roots r) (dressed_roots r) R
  look_alike = record {
    op = λ t v h. ap op_in (sym (label_is t v h));
    whole = λ t v h. ap desc_in (sym (label_is t v h));
    view = λ t v h. ap (λ l. only r.properties (seen r) (desc_in l)) (sym (label_is t v h));
    inputs = inputs_related;
  }

  -- ---- what is seen fits

  root_fits : (t : Tree Label) → IsTree r c t → fits r.properties (desc_in (label t)) ≡ true
  root_fits (node l ts) h = h.0.0

  abbrev all_fit : List Desc → Bool
  all_fit = list_all (fits r.properties)

  fit_both : (xs ys : List Desc) → all_fit xs ≡ true → all_fit ys ≡ true → all_fit (xs ++ ys) ≡ true
  fit_both xs ys e f = list_all-append (fits r.properties) xs ys ∙ both_true (all_fit xs) (all_fit ys) e f

  mutual
    nodes_fit : (p : Side) (t : Tree Label) (m : Matched (Tree Label)) → IsTree r c t → matched (tree_roots r) p t ≡ Some m → all_fit m.slots.nodes ≡ true
    nodes_fit (node (side.stream n) ls) t m is e = subst (λ (x : Matched (Tree Label)). all_fit x.slots.nodes ≡ true) (some_is _ m e) refl
    nodes_fit (node (side.operator op) ls) (node l ts) m is e =
        let found = if_some (is_number (op_in l) op) (option_map (with_node (desc_in l)) (all_matched (tree_roots r) ls (list_of ts))) m e in
        let (m', under, m_is) = map_some (with_node (desc_in l)) (all_matched (tree_roots r) ls (list_of ts)) m found in
        subst (λ (x : Matched (Tree Label)). all_fit x.slots.nodes ≡ true) m_is
        (both_true (fits r.properties (desc_in l)) (all_fit m'.slots.nodes) is.0.0 (all_nodes_fit ls ts m' is.2 under))

    all_nodes_fit : (ps : Trees SideLabel) (ts : Trees Label) (m : Matched (Tree Label)) → AreTrees r c ts → all_matched (tree_roots r) ps (list_of ts) ≡ Some m → all_fit m.slots.nodes ≡ true
    all_nodes_fit nil nil m is e = subst (λ (x : Matched (Tree Label)). all_fit x.slots.nodes ≡ true) (some_is _ m e) refl
    all_nodes_fit nil (cons t ts) m is e = absurd (nothing e)
      where
        nothing : None ≡ Some m → ⊥
        nothing e = cc
    all_nodes_fit (cons p ps) nil m is e = absurd (nothing e)
      where
        nothing : None ≡ Some m → ⊥
        nothing e = cc
    all_nodes_fit (cons p ps) (cons t ts) m is e =
        let (m', first, more) = then_some (λ x. option_map (and_match x) (all_matched (tree_roots r) ps (list_of ts))) (matched (tree_roots r) p t) m e in
        let (m'', rest, m_is) = map_some (and_match m') (all_matched (tree_roots r) ps (list_of ts)) m more in
        subst (λ (x : Matched (Tree Label)). all_fit x.slots.nodes ≡ true) m_is
        (fit_both m'.slots.nodes m''.slots.nodes (nodes_fit p t m' is.0 first) (all_nodes_fit ps ts m'' is.1 rest))

  streams_fit : (ts : List (Tree Label)) (vs : List (Tree TreeLabel)) → AllZip R ts vs → list_all (λ (v : Tree TreeLabel). fits r.properties (desc_in (plain_label (label v)))) vs ≡ true
  streams_fit [] [] h = refl
  streams_fit [] (v ∷ vs) h = absurd h
  streams_fit (t ∷ ts) [] h = absurd h
  streams_fit (t ∷ ts) (v ∷ vs) h =
      both_true (fits r.properties (desc_in (plain_label (label v)))) (list_all (λ (x : Tree TreeLabel). fits r.properties (desc_in (plain_label (label x)))) vs)
      (ap (λ l. fits r.properties (desc_in l)) (label_is t v h.0) ∙ root_fits t h.0.1) (streams_fit ts vs h.1)

  -- ---- what is made

  module _ (ts : List (Tree Label)) (vs : List (Tree TreeLabel)) (related : AllZip R ts vs) where
    abbrev one : Side → List Desc → Tree Label × List Desc
    one = made_with (λ op d xs. tree (operator op d) xs) (tree (file [] []) []) ts

    abbrev all : Trees SideLabel → List Desc → List (Tree Label) × List Desc
    all = all_made_with (λ op d xs. tree (operator op d) xs) (tree (file [] []) []) ts

    abbrev one' : Side → List Desc → Tree TreeLabel × List Desc
    one' = made_with (λ op d xs. tree (dress (operator op d)) xs) (tree (dress (file [] [])) []) vs

    abbrev all' : Trees SideLabel → List Desc → List (Tree TreeLabel) × List Desc
    all' = all_made_with (λ op d xs. tree (dress (operator op d)) xs) (tree (dress (file [] [])) []) vs

    stream_dressed : (xs : List (Tree Label)) (ys : List (Tree TreeLabel)) (n : ℕ) → AllZip R xs ys → dressed r (unwrap_or (slice_get xs n) (tree (file [] []) [])) ≡ unwrap_or (slice_get ys n) (tree (dress (file [] [])) [])
    stream_dressed [] [] n h = refl
    stream_dressed [] (y ∷ ys) n h = absurd h
    stream_dressed (x ∷ xs) [] n h = absurd h
    stream_dressed (x ∷ xs) (y ∷ ys) zero h = sym h.0.0
    stream_dressed (x ∷ xs) (y ∷ ys) (suc n) h = stream_dressed xs ys n h.1

    mutual
      made_dressed : (s : Side) (ds : List Desc) → (dressed r (one s ds).0 ≡ (one' s ds).0) × ((one s ds).1 ≡ (one' s ds).1)
      made_dressed (node (side.operator op) rs) [] = (refl, refl)
      made_dressed (node (side.operator op) rs) (d ∷ ds) = let h = all_made_dressed rs ds in (ap (λ (x : Trees TreeLabel). node (dress (operator op d)) x) h.0, h.1)
      made_dressed (node (side.stream n) rs) ds = (stream_dressed ts vs n related, refl)

      all_made_dressed : (rs : Trees SideLabel) (ds : List Desc) → (map_trees dress (trees_of (all rs ds).0) ≡ trees_of (all' rs ds).0) × ((all rs ds).1 ≡ (all' rs ds).1)
      all_made_dressed nil ds = (refl, refl)
      all_made_dressed (cons s rs) ds =
          let h = made_dressed s ds in
          let g = all_made_dressed rs (one s ds).1 in
          let from : (all' rs (one s ds).1) ≡ (all' rs (one' s ds).1) = ap (all' rs) h.1 in
          ((λ i. cons (h.0 i) ((g.0 ∙ ap (λ (x : List (Tree TreeLabel) × List Desc). trees_of x.0) from) i)), g.1 ∙ ap (λ (x : List (Tree TreeLabel) × List Desc). x.1) from)

    pub tree_made_dressed : (s : Side) (ds : List Desc) → dressed r (tree_made (λ l. l) (λ l. l) ts s ds) ≡ tree_made plain_label dress vs s ds
    tree_made_dressed s ds = (made_dressed s ds).0

  -- ---- steps

  runs_dressed : (ts : List (Tree Label)) (vs : List (Tree TreeLabel)) → AllZip R ts vs → (s : Side) (o : Option (List Desc)) →
      option_map (tree_made plain_label dress vs s) o ≡ option_map (dressed r) (option_map (tree_made (λ l. l) (λ l. l) ts s) o)
  runs_dressed ts vs h s None = refl
  runs_dressed ts vs h s (Some ds) = ap Some (sym (tree_made_dressed ts vs h s ds))

  rewritten_dressed : (t : TRule) (m : Matched (Tree Label)) (n : Matched (Tree TreeLabel)) → all_fit m.slots.nodes ≡ true → MatchAlike R (Some m) (Some n) →
      fit_rewritten r c t n ≡ option_map (dressed r) (rewritten_on (λ l. l) (λ l. l) r c t m)
  rewritten_dressed t m n fit (same, related) =
      let is : are_fit r n ≡ true = both_true (all_fit n.slots.nodes) (list_all (λ (v : Tree TreeLabel). fits r.properties (desc_in (plain_label (label v)))) n.streams) (ap (λ x. all_fit x.nodes) (sym same) ∙ fit) (streams_fit m.streams n.streams related) in
      ap (λ (b : Bool). if b then rewritten_on plain_label dress r c t n else None) is
      ∙ (ap (λ x. option_map (tree_made plain_label dress n.streams (right_side r.operators t.left t.right)) (trule_made r c t x)) (sym same)
      ∙ runs_dressed m.streams n.streams related (right_side r.operators t.left t.right) (trule_made r c t m.slots))

  matches_dressed : (t : TRule) (o : Option (Matched (Tree Label))) (o' : Option (Matched (Tree TreeLabel))) → ((m : Matched (Tree Label)) → o ≡ Some m → all_fit m.slots.nodes ≡ true) → MatchAlike R o o' →
      option_and_then (fit_rewritten r c t) o' ≡ option_map (dressed r) (option_and_then (rewritten_on (λ l. l) (λ l. l) r c t) o)
  matches_dressed t None None fit h = refl
  matches_dressed t (Some m) None fit h = absurd h
  matches_dressed t None (Some n) fit h = absurd h
  matches_dressed t (Some m) (Some n) fit h = rewritten_dressed t m n (fit m refl) h

  rule_dressed : (o : Option TRule) (u : Tree Label) → IsTree r c u →
      option_and_then (λ t. dressed_stepped r c t (dressed r u)) o ≡ option_map (dressed r) (option_and_then (λ t. stepped_on (λ l. l) (λ l. l) r c t u) o)
  rule_dressed None u is = refl
  rule_dressed (Some t) u is =
      matches_dressed t (matched (tree_roots r) (left_side r.operators t.left) u) (matched (dressed_roots r) (left_side r.operators t.left) (dressed r u))
      (λ m e. nodes_fit (left_side r.operators t.left) u m is e)
      (matched_alike R (tree_roots r) (dressed_roots r) look_alike (left_side r.operators t.left) u (dressed r u) (refl, is))

  pub steps_are_dressed : StepsAreDressed r c
  steps_are_dressed n u is = rule_dressed (slice_get r.trules n) u is
