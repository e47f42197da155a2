-- Terms that stand for dressed trees.
use Rattle.std.proofs.Common.{◌≡◌, ℕ, zero, suc, ◌+◌, ◌<◌, ◌≤◌, true, List, [], ◌∷◌, ◌++◌, length, map, take, drop, get_or, Some, None, refl, ap, sym, ◌∙◌, subst, arith, take_all}
use Rattle.std.specs.Prelude.{All, slice_get}
use Rattle.std.proofs.lemmas.Bool.{false≢true}
use Rattle.std.proofs.lemmas.List.{length-map}
use Rattle.rule_trees.proofs.PlaceLaws.{at_place}
use Rattle.rule_runs.proofs.SideLaws.{made-more}
use Rattle.catalog.specs.Contents.{Catalog}
use Rattle.derivation.proofs.LogLaws.{stands_within}
use Rattle.derivation.proofs.StandsLaws.{keeps_of_take, stand_still}
use Rattle.derivation.specs.Stands.{Stands, StandAll}
use Rattle.derivation.specs.Table.{IsOverOne, term}
use Rattle.derivation.specs.declared.terms.Term.{Term}
use Rattle.descriptor_types.proofs.SeenLaws.{seen_file, seen_node}
use Rattle.descriptor_types.specs.Descriptors.{Desc}
use Rattle.descriptor_types.specs.Labels.{Label, file, operator, seen_tree}
use Rattle.descriptor_types.specs.declared.tree.Tree as rust
use Rattle.descriptor_types.specs.declared.tree.Tree.TheVariants as variant
use Rattle.pr_value.proofs.Shelf.{cons-first, cons-rest}
use Rattle.pr_value.specs.Symbols.{Symbol}
use Rattle.pr_value.specs.Trees.{Tree, Trees, node, nil, cons, tree, list_of, trees_of, map_trees}
use Rattle.rule_ast.specs.Syntax.{Rules}
use Rattle.rule_types.specs.Conditions.{refused_by}
use Rattle.rule_types.proofs.AcceptedArities.{accepted-arities}
use Rattle.rule_types.proofs.AcceptedSides.{accepted-sides}
use Rattle.rule_trees.proofs.AcceptedFacts.{accepted-operators}
use Rattle.tree_terms.proofs.EnforcerLaws.{enforcer-one}
use Rattle.tree_terms.specs.Dressed.{dressed}
use Rattle.tree_terms.specs.Equality.{enforces}
use Rattle.tree_terms.specs.TreeLabels.{dressed_label, is_on_edge}
use Rattle.rule_trees.specs.Trees.{AreTrees, IsTree}
use Rattle.tree_terms.specs.declared.labels.TreeLabel.{TreeLabel}

-- ---- terms that are kept

pub kept_trans : {X : Type 0} (old mid new : List X) → take (length old) mid ≡ old → take (length mid) new ≡ mid → take (length old) new ≡ old
kept_trans [] mid new h k = refl
kept_trans (x ∷ old) [] new h k = cc
kept_trans (x ∷ old) (y ∷ mid) [] h k = cc
kept_trans (x ∷ old) (y ∷ mid) (z ∷ new) h k =
    let first : z ≡ x = cons-first z y (take (length mid) new) mid k ∙ cons-first y x (take (length old) mid) old h in
    let rest = kept_trans old mid new (cons-rest y x (take (length old) mid) old h) (cons-rest z y (take (length mid) new) mid k) in
    λ i. first i ∷ rest i

pub kept_itself : {X : Type 0} (xs : List X) → take (length xs) xs ≡ xs
kept_itself xs = take_all (length xs) xs (omega arith)

-- ---- rows of terms

module _ {L : Type 0} (ts : List (Term L)) where
  pub stand_long : (ns : List ℕ) (us : List (Tree L)) → StandAll ts ns (trees_of us) → length ns ≡ length us
  unfolding Stands
  stand_long [] [] h = refl
  stand_long [] (u ∷ us) h = absurd h
  stand_long (n ∷ ns) [] h = absurd h
  stand_long (n ∷ ns) (u ∷ us) h = ap suc (stand_long ns us h.1)

  pub stand_push : (ns : List ℕ) (us : List (Tree L)) (n : ℕ) (u : Tree L) → StandAll ts ns (trees_of us) → Stands ts n u → StandAll ts (ns ++ n ∷ []) (trees_of (us ++ u ∷ []))
  unfolding Stands
  stand_push [] [] n u h k = (k, tt)
  stand_push [] (v ∷ us) n u h k = absurd h
  stand_push (m ∷ ns) [] n u h k = absurd h
  stand_push (m ∷ ns) (v ∷ us) n u h k = (h.0, stand_push ns us n u h.1 k)

  pub stand_within : (ns : List ℕ) (us : List (Tree L)) → StandAll ts ns (trees_of us) → All (λ n. n < length ts) ns
  unfolding Stands
  stand_within [] us h = λ i d l. absurd (omega (arith, l))
  stand_within (n ∷ ns) [] h = absurd h
  stand_within (n ∷ ns) (u ∷ us) h = each n ns (stands_within ts n u h.0) (stand_within ns us h.1) where
    each : (m : ℕ) (ms : List ℕ) → m < length ts → All (λ n. n < length ts) ms → All (λ n. n < length ts) (m ∷ ms)
    each m ms first rest zero d l = first
    each m ms first rest (suc i) d l = rest i d (omega (arith, l))

-- nothing stands for no trees
pub stand_none : {L : Type 0} (ts : List (Term L)) → StandAll ts [] nil
unfolding Stands
stand_none ts = tt

-- a term over numbers that stood for the inputs
pub stands_over : {L : Type 0} (old new : List (Term L)) (n : ℕ) (l m : L) (ns : List ℕ) (us : Trees L) → take (length old) new ≡ old → slice_get new n ≡ Some (term l ns) → l ≡ m → StandAll old ns us → Stands new n (node m us)
unfolding Stands
stands_over old new n l m ns us kept at same all = (term l ns, at, same, stand_still old new (keeps_of_take old new kept) ns us all)

-- ---- dressed trees

dressed-trees : (r : Rules) (us : List (Tree Label)) → trees_of (map (dressed r) us) ≡ map_trees (dressed_label r) (trees_of us)
dressed-trees r [] = refl
dressed-trees r (u ∷ us) = ap (λ ts. cons (dressed r u) ts) (dressed-trees r us)

map-map : (r : Rules) (us : List rust.Tree) → map (λ t. dressed r (seen_tree t)) us ≡ map (dressed r) (map seen_tree us)
map-map r [] = refl
map-map r (u ∷ us) = ap (λ ts. dressed r (seen_tree u) ∷ ts) (map-map r us)

seen-dressed : (r : Rules) (us : List rust.Tree) → trees_of (map (λ t. dressed r (seen_tree t)) us) ≡ map_trees (dressed_label r) (trees_of (map seen_tree us))
seen-dressed r us = ap trees_of (map-map r us) ∙ dressed-trees r (map seen_tree us)

pub file_stands : (r : Rules) (old new : List (Term TreeLabel)) (n : ℕ) (t : rust.Tree) (name other : Symbol) (d e : Desc) (l : TreeLabel) (ns : List ℕ) → t ≡ variant.File name d → other ≡ name → e ≡ d → l ≡ dressed_label r (file other e) → ns ≡ []
    → take (length old) new ≡ old → slice_get new n ≡ Some (term l ns) → Stands new n (dressed r (seen_tree t))
file_stands r old new n t name other d e l ns is names descs label none kept at =
    let seen : seen_tree t ≡ node (file name d) nil = ap seen_tree is ∙ seen_file name d in
    let labels : l ≡ dressed_label r (file name d) = label ∙ (λ i. dressed_label r (file (names i) (descs i))) in
    subst (λ (u : Tree Label). Stands new n (dressed r u)) (sym seen)
    (stands_over old new n l (dressed_label r (file name d)) [] nil kept (at ∙ ap (λ ms. Some (term l ms)) none) labels (stand_none old))

pub node_stands : (r : Rules) (old new : List (Term TreeLabel)) (n : ℕ) (t : rust.Tree) (op : ℕ) (d e : Desc) (us vs : List rust.Tree) (l : TreeLabel) (ns : List ℕ) → t ≡ variant.Node op d us → vs ≡ us → e ≡ d → l ≡ dressed_label r (operator op e)
    → take (length old) new ≡ old → slice_get new n ≡ Some (term l ns) → StandAll old ns (trees_of (map (λ u. dressed r (seen_tree u)) vs)) → Stands new n (dressed r (seen_tree t))
node_stands r old new n t op d e us vs l ns is inputs descs label kept at all =
    let seen : seen_tree t ≡ node (operator op d) (trees_of (map seen_tree us)) = ap seen_tree is ∙ seen_node op d us in
    let labels : l ≡ dressed_label r (operator op d) = label ∙ ap (λ f. dressed_label r (operator op f)) descs in
    let row = subst (λ ts. StandAll old ns ts) (seen-dressed r vs ∙ ap (λ (xs : List rust.Tree). map_trees (dressed_label r) (trees_of (map seen_tree xs))) inputs) all in
    subst (λ (u : Tree Label). Stands new n (dressed r u)) (sym seen)
    (stands_over old new n l (dressed_label r (operator op d)) ns (map_trees (dressed_label r) (trees_of (map seen_tree us))) kept at labels row)

-- ---- labels on edges stand over one input

pub file_over_one : (r : Rules) (l : TreeLabel) (name : Symbol) (d : Desc) (ns : List ℕ) → l ≡ dressed_label r (file name d) → IsOverOne is_on_edge (term l ns)
file_over_one r l name d ns is on = absurd (false≢true (sym (ap is_on_edge is) ∙ on))

long-list : (us : List (Tree Label)) → length (list_of (trees_of us)) ≡ length us
long-list [] = refl
long-list (u ∷ us) = ap suc (long-list us)

pub node_over_one : (r : Rules) (k : Catalog) (l : TreeLabel) (op : ℕ) (d : Desc) (us : List (Tree Label)) (ns : List ℕ) → refused_by r ≡ None → IsTree r k (tree (operator op d) us) → length ns ≡ length us → (e : Desc) → l ≡ dressed_label r (operator op e)
    → IsOverOne is_on_edge (term l ns)
node_over_one r k l op d us ns accepted is long e label on =
    let enforcing : enforces r op ≡ true = sym (ap is_on_edge label) ∙ on in
    let o = is.1.0 in
    let one = enforcer-one r (accepted-operators r accepted) (accepted-arities r accepted) (accepted-sides r accepted) op o is.1.1 enforcing in
    let many = is.1.2 in
    let listed = long-list us in
    omega (arith, long, one, many, listed)

pub node_IsTree : (r : Rules) (k : Catalog) (t : rust.Tree) (op : ℕ) (d : Desc) (us : List rust.Tree) → t ≡ variant.Node op d us → IsTree r k (seen_tree t) → IsTree r k (tree (operator op d) (map seen_tree us))
node_IsTree r k t op d us is of = subst (IsTree r k) (ap seen_tree is ∙ seen_node op d us) of

-- ---- one tree after another

-- the tree at a place of trees of the rules is one, and so are those behind it
pub trees-at : (r : Rules) (k : Catalog) (us : List rust.Tree) (i : ℕ) (x : rust.Tree) → i < length us → x ≡ get_or us i x → AreTrees r k (trees_of (map seen_tree (drop i us))) → IsTree r k (seen_tree x) × AreTrees r k (trees_of (map seen_tree (drop (i + 1) us)))
trees-at r k us i x within is are = subst (λ ts. AreTrees r k (trees_of ts)) (at_place seen_tree us i x within is) are

map-push : {X Y : Type 0} (f : X → Y) (xs : List X) (x : X) → map f (xs ++ x ∷ []) ≡ map f xs ++ f x ∷ []
map-push f [] x = refl
map-push f (y ∷ xs) x = ap (λ ys. f y ∷ ys) (map-push f xs x)

pub map-take : {X Y : Type 0} (f : X → Y) (xs : List X) (i : ℕ) (x : X) → i < length xs → x ≡ get_or xs i x → map f (take (i + 1) xs) ≡ map f (take i xs) ++ f x ∷ []
map-take f xs i x within is = sym (made-more f f (take i xs) (take i xs ++ x ∷ []) x xs i x within is refl refl refl) ∙ map-push f (take i xs) x

pub stand-more : (r : Rules) (old new : List (Term TreeLabel)) (ns ms : List ℕ) (us : List rust.Tree) (i : ℕ) (x : rust.Tree) (n : ℕ) → i < length us → x ≡ get_or us i x → take (length old) new ≡ old
    → StandAll old ns (trees_of (map (λ t. dressed r (seen_tree t)) (take i us))) → Stands new n (dressed r (seen_tree x)) → ms ≡ ns ++ n ∷ [] → StandAll new ms (trees_of (map (λ t. dressed r (seen_tree t)) (take (i + 1) us)))
stand-more r old new ns ms us i x n within is kept so_far one pushed =
    let f : rust.Tree → Tree TreeLabel = λ t. dressed r (seen_tree t) in
    let before = stand_still old new (keeps_of_take old new kept) ns (trees_of (map f (take i us))) so_far in
    subst (λ ks. StandAll new ks (trees_of (map f (take (i + 1) us)))) (sym pushed)
    (subst (λ ts. StandAll new (ns ++ n ∷ []) (trees_of ts)) (sym (map-take f us i x within is)) (stand_push new ns (map f (take i us)) n (f x) before one))

pub stand-all : (r : Rules) (ts : List (Term TreeLabel)) (ns : List ℕ) (us : List rust.Tree) (i : ℕ) → length us ≤ i → StandAll ts ns (trees_of (map (λ t. dressed r (seen_tree t)) (take i us))) → StandAll ts ns (trees_of (map (λ t. dressed r (seen_tree t)) us))
stand-all r ts ns us i done all = subst (λ (xs : List rust.Tree). StandAll ts ns (trees_of (map (λ t. dressed r (seen_tree t)) xs))) (take_all i us done) all

-- as many numbers as inputs
pub inputs-long : (r : Rules) (ts : List (Term TreeLabel)) (ns ms : List ℕ) (us vs : List rust.Tree) → ms ≡ ns → vs ≡ us → StandAll ts ns (trees_of (map (λ t. dressed r (seen_tree t)) vs)) → length ms ≡ length (map seen_tree us)
inputs-long r ts ns ms us vs same inputs all =
    ap length same ∙ (stand_long ts ns (map (λ t. dressed r (seen_tree t)) vs) all ∙ (length-map vs (λ t. dressed r (seen_tree t)) ∙ (ap length inputs ∙ sym (length-map us seen_tree))))
