-- Each term that is added for a tree stands for it or for a part of it.
use Rattle.std.proofs.Common.{◌≡◌, ℕ, zero, suc, ◌+◌, ◌<◌, ◌≤◌, List, [], ◌∷◌, ◌++◌, length, map, take, get_or, Some, inl, inr, refl, ap, sym, ◌∙◌, subst, arith, take_all}
use Rattle.std.specs.Prelude.{◌⊎◌, Contains, slice_get}
use Rattle.std.proofs.lemmas.Bool.{cases_lt}
use Rattle.std.proofs.lemmas.List.{length-append}
use Rattle.action_eval.proofs.TypeLaws.{some-same}
use Rattle.derivation.proofs.StandsLaws.{keeps_of_take, stands_still}
use Rattle.derivation.specs.Stands.{Stands, StandAll}
use Rattle.derivation.specs.Table.{IsAdded, term}
use Rattle.derivation.specs.declared.terms.Term.{Term}
use Rattle.descriptor_types.proofs.SeenLaws.{seen_file, seen_node}
use Rattle.descriptor_types.specs.Descriptors.{Desc}
use Rattle.descriptor_types.specs.Labels.{Label, file, operator, seen_tree}
use Rattle.descriptor_types.specs.declared.tree.Tree as rust
use Rattle.descriptor_types.specs.declared.tree.Tree.TheVariants as variant
use Rattle.pr_value.specs.Symbols.{Symbol}
use Rattle.pr_value.specs.Trees.{Tree, Trees, node, nil, cons, inputs, list_of, trees_of, map_trees, IsProperPart, of_input, of_part}
use Rattle.rule_ast.specs.Syntax.{Rules}
use Rattle.tree_terms.proofs.AddLaws.{map-take}
use Rattle.tree_terms.specs.Dressed.{dressed}
use Rattle.tree_terms.specs.TreeLabels.{dressed_label}
use Rattle.tree_terms.specs.TermsAdded.{AddsParts, AddsPartsOf, IsPart, NewStandFor}
use Rattle.tree_terms.specs.declared.labels.TreeLabel.{TreeLabel}

-- ---- places of lists

last_at : {X : Type 0} (xs : List X) (x : X) → slice_get (xs ++ x ∷ []) (length xs) ≡ Some x
last_at [] x = refl
last_at (y ∷ xs) x = last_at xs x

left_at : {X : Type 0} (xs ys : List X) (i : ℕ) (x : X) → slice_get xs i ≡ Some x → slice_get (xs ++ ys) i ≡ Some x
left_at [] ys i x at = cc
left_at (y ∷ xs) ys zero x at = at
left_at (y ∷ xs) ys (suc i) x at = left_at xs ys i x at

there : {X : Type 0} (xs : List X) (n : ℕ) (x : X) → slice_get xs n ≡ Some x → Contains xs x
there [] n x at = cc
there (y ∷ xs) zero x at = (zero, omega arith, some-same at)
there (y ∷ xs) (suc n) x at = let (k, within, is) = there xs n x at in (suc k, omega (arith, within), is)

-- ---- terms

abbrev Terms : Type 0
Terms = List (Term TreeLabel)

-- what is there is nothing new
pub none_new : (P : Tree TreeLabel → Type 0) (ts : Terms) → NewStandFor P ts ts
none_new P ts n low high = absurd (omega (arith, low, high))

-- of one term that is added, the term is new
one_new : (P : Tree TreeLabel → Type 0) (old new : Terms) (t : Term TreeLabel) → IsAdded old new t → ((n : ℕ) → slice_get new n ≡ Some t → (u : Tree TreeLabel) × Stands new n u × P u) → NewStandFor P old new
one_new P old new t (inl same) make n low high = let e : length new ≡ length old = ap length same in absurd (omega (arith, e, low, high))
one_new P old new t (inr more) make n low high =
    let e : length new ≡ length (old ++ t ∷ []) = ap length more in
    let f = length-append old (t ∷ []) in
    let here : n ≡ length old = omega (arith, e, f, low, high) in
    make n (ap (λ k. slice_get new k) here ∙ (ap (λ xs. slice_get xs (length old)) more ∙ last_at old t))

-- what is new after two steps is new after the first, or after the second
both_new : (P : Tree TreeLabel → Type 0) (old mid new : Terms) → take (length mid) new ≡ mid → NewStandFor P old mid → NewStandFor P mid new → NewStandFor P old new
both_new P old mid new kept first second n low high = elim (cases_lt n (length mid)) [
  | inl before ↦ (let (u, stands, is) = first n low before in (u, stands_still mid new (keeps_of_take mid new kept) n u stands, is))
  | inr behind ↦ second n behind high
]

weaker : (P Q : Tree TreeLabel → Type 0) (old new : Terms) → ((u : Tree TreeLabel) → P u → Q u) → NewStandFor P old new → NewStandFor Q old new
weaker P Q old new go all n low high = let (u, stands, is) = all n low high in (u, stands, go u is)

-- ---- parts

abbrev IsPartOf : List (Tree TreeLabel) → Tree TreeLabel → Type 0
IsPartOf ts u = (i : ℕ) × (t : Tree TreeLabel) × (slice_get ts i ≡ Some t) × IsPart u t

input_part : (l : TreeLabel) (ts : Trees TreeLabel) (u : Tree TreeLabel) → IsPartOf (list_of ts) u → IsPart u (node l ts)
input_part l ts u (i, t, at, inl same) = inr (subst (λ x. IsProperPart x (node l ts)) (sym same) (of_input (there (list_of ts) i t at)))
input_part l ts u (i, t, at, inr part) = inr (of_part part (there (list_of ts) i t at))

listed : (r : Rules) (us : List rust.Tree) → list_of (map_trees (dressed_label r) (trees_of (map seen_tree us))) ≡ map (λ u. dressed r (seen_tree u)) us
listed r [] = refl
listed r (u ∷ us) = ap (λ ts. dressed r (seen_tree u) ∷ ts) (listed r us)

-- ---- a file, and an operator over inputs that were added

pub file_parts : (r : Rules) (old new : Terms) (t : rust.Tree) (l : TreeLabel) (ns : List ℕ) → IsAdded old new (term l ns) → ((n : ℕ) → slice_get new n ≡ Some (term l ns) → Stands new n (dressed r (seen_tree t))) → AddsParts (dressed r (seen_tree t)) old new
file_parts r old new t l ns added stands = one_new (λ u. IsPart u (dressed r (seen_tree t))) old new (term l ns) added (λ n at. (dressed r (seen_tree t), stands n at, inl refl))

pub node_parts : (r : Rules) (old mid new : Terms) (t : rust.Tree) (op : ℕ) (d : Desc) (us vs : List rust.Tree) (l : TreeLabel) (ns : List ℕ) → t ≡ variant.Node op d us → vs ≡ us → take (length mid) new ≡ mid → IsAdded mid new (term l ns)
    → ((n : ℕ) → slice_get new n ≡ Some (term l ns) → Stands new n (dressed r (seen_tree t))) → AddsPartsOf (map (λ u. dressed r (seen_tree u)) vs) old mid → AddsParts (dressed r (seen_tree t)) old new
node_parts r old mid new t op d us vs l ns is same kept added stands below =
    let whole : Tree TreeLabel = dressed r (seen_tree t) in
    let tree : node (dressed_label r (operator op d)) (map_trees (dressed_label r) (trees_of (map seen_tree us))) ≡ whole = sym (ap (λ x. dressed r (seen_tree x)) is ∙ ap (dressed r) (seen_node op d us)) in
    let trees : map (λ u. dressed r (seen_tree u)) vs ≡ list_of (map_trees (dressed_label r) (trees_of (map seen_tree us))) = ap (map (λ u. dressed r (seen_tree u))) same ∙ sym (listed r us) in
    both_new (λ u. IsPart u whole) old mid new kept
    (weaker (IsPartOf (map (λ u. dressed r (seen_tree u)) vs)) (λ u. IsPart u whole) old mid
    (λ u part. subst (IsPart u) tree (input_part (dressed_label r (operator op d)) (map_trees (dressed_label r) (trees_of (map seen_tree us))) u (subst (λ ts. IsPartOf ts u) trees part))) below)
    (one_new (λ u. IsPart u whole) mid new (term l ns) added (λ n at. (whole, stands n at, inl refl)))

-- ---- one tree after another

pub parts_more : (r : Rules) (first old new : Terms) (us : List rust.Tree) (i : ℕ) (x : rust.Tree) → i < length us → x ≡ get_or us i x → take (length old) new ≡ old
    → AddsPartsOf (map (λ u. dressed r (seen_tree u)) (take i us)) first old → AddsParts (dressed r (seen_tree x)) old new → AddsPartsOf (map (λ u. dressed r (seen_tree u)) (take (i + 1) us)) first new
parts_more r first old new us i x within is kept so_far one =
    let f : rust.Tree → Tree TreeLabel = λ t. dressed r (seen_tree t) in
    let trees : List (Tree TreeLabel) = map f (take i us) in
    subst (λ ts. AddsPartsOf ts first new) (sym (map-take f us i x within is))
    (both_new (IsPartOf (trees ++ f x ∷ [])) first old new kept
    (weaker (IsPartOf trees) (IsPartOf (trees ++ f x ∷ [])) first old (λ u (k, t, at, part). (k, t, left_at trees (f x ∷ []) k t at, part)) so_far)
    (weaker (λ u. IsPart u (f x)) (IsPartOf (trees ++ f x ∷ [])) old new (λ u part. (length trees, f x, last_at trees (f x), part)) one))

pub parts_all : (r : Rules) (first new : Terms) (us : List rust.Tree) (i : ℕ) → length us ≤ i → AddsPartsOf (map (λ u. dressed r (seen_tree u)) (take i us)) first new → AddsPartsOf (map (λ u. dressed r (seen_tree u)) us) first new
parts_all r first new us i done all = subst (λ (xs : List rust.Tree). AddsPartsOf (map (λ u. dressed r (seen_tree u)) xs) first new) (take_all i us done) all
