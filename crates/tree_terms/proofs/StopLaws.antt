-- What stops the rounds is the same of trees with their views.
use Rattle.std.proofs.Common.{◌≡◌, ℕ, zero, suc, ◌+◌, ◌<◌, Bool, true, not, List, [], ◌∷◌, length, map, Option, Some, None, option_map, slice_index_or, refl, ap, sym, ◌∙◌, subst, arith}
use Rattle.std.specs.Prelude.{◌↔◌, All, AllPairs, Contains}
use Rattle.std.specs.List.{AllZip}
use Rattle.std.proofs.lemmas.List.{length-map}
use Rattle.catalog.specs.Contents.{Catalog}
use Rattle.derivation.specs.Equality as equality
use Rattle.descriptor_types.specs.Descriptors.{Desc, only}
use Rattle.descriptor_types.specs.Labels.{Label, file, operator}
use Rattle.pr_value.specs.Trees.{Tree, node, Trees, nil, cons, tree, label, inputs, list_of, map_tree, map_trees, IsProperPart, of_input, of_part}
use Rattle.rule_ast.specs.Syntax.{Rules}
use Rattle.tree_terms.proofs.DressedLaws.{back, forth, only_dressed, same_tree}
use Rattle.tree_terms.proofs.DressedTrees.{mapped_and_back}
use Rattle.tree_terms.specs.Dressed.{dressed, dressed_step}
use Rattle.tree_terms.specs.DressedLaws.{DressedJoined, DressedLoop}
use Rattle.tree_terms.specs.Equality.{Alike, Full, Joined, LoopAt, enforces, is_counted}
use Rattle.rule_trees.specs.Steps.{step}
use Rattle.tree_terms.specs.TreeLabels.{dressed_label, is_on_edge, plain_label}
use Rattle.rule_trees.specs.Trees.{IsTree}
use Rattle.rule_trees.specs.Views.{seen}
use Rattle.tree_terms.specs.declared.labels.TreeLabel.{TreeLabel}
use Rattle.tree_terms.specs.declared.labels.TreeLabel.TheVariants as variant

-- ---- lists that are changed one by one

map_at : {A B : Type 0} (f : A → B) (xs : List A) (i : ℕ) (d : B) (e : A) → i < length xs → slice_index_or (map f xs) i d ≡ f (slice_index_or xs i e)
map_at f [] i d e within = absurd (omega (arith, within))
map_at f (x ∷ xs) zero d e within = refl
map_at f (x ∷ xs) (suc i) d e within = map_at f xs i d e (omega (arith, within))

any_default : {A : Type 0} (xs : List A) (i : ℕ) (d e : A) → i < length xs → slice_index_or xs i d ≡ slice_index_or xs i e
any_default [] i d e within = absurd (omega (arith, within))
any_default (x ∷ xs) zero d e within = refl
any_default (x ∷ xs) (suc i) d e within = any_default xs i d e (omega (arith, within))

all_mapped : {A B : Type 0} (f : A → B) (P : A → Type 0) (Q : B → Type 0) (some : A) (xs : List A) → ((x : A) → P x → Q (f x)) → All P xs → All Q (map f xs)
all_mapped f P Q some xs go all i d within =
    let low : i < length xs = omega (arith, within, length-map xs f) in
    subst Q (sym (map_at f xs i d some low)) (go (slice_index_or xs i some) (all i some low))

pairs_mapped : {A B : Type 0} (f : A → B) (P : A → A → Type 0) (Q : B → B → Type 0) (some : A) (xs : List A) → ((i j : ℕ) → i < length xs → j < length xs → P (slice_index_or xs i some) (slice_index_or xs j some) → Q (f (slice_index_or xs i some)) (f (slice_index_or xs j some))) → AllPairs P xs → AllPairs Q (map f xs)
pairs_mapped {A} {B} f P Q some xs go all i j d before within =
    let low : j < length xs = omega (arith, within, length-map xs f) in
    let lower : i < length xs = omega (arith, before, low) in
    subst (λ (y : B). Q y (slice_index_or (map f xs) j d)) (sym (map_at f xs i d some lower))
    (subst (λ (y : B). Q (f (slice_index_or xs i some)) y) (sym (map_at f xs j d some low)) (go i j lower low (all i j some before low)))

-- under rules whose steps are the same with views, and over trees of the rules
module _ (r : Rules) (c : Catalog) (q : Tree Label)
    (steps : (n : ℕ) (t : Tree Label) → IsTree r c t → dressed_step r c n (dressed r t) ≡ option_map (dressed r) (step r c n t))
    (trees : (k : ℕ) (t u : Tree Label) → Joined r c q k t u → IsTree r c t × IsTree r c u) where
  abbrev D : Tree Label → Tree TreeLabel
  D = dressed r

  abbrev J : ℕ → Tree Label → Tree Label → Type 0
  J = Joined r c q

  abbrev J' : ℕ → Tree TreeLabel → Tree TreeLabel → Type 0
  J' = DressedJoined r c q

  abbrev Alike' : ℕ → Tree TreeLabel → Tree TreeLabel → Type 0
  Alike' = equality.Alike (dressed_step r c) (dressed r q)

  to : (k : ℕ) (t u : Tree Label) → J k t u → J' k (D t) (D u)
  to k t u p = forth r c q steps trees p

  fro : (k : ℕ) (t u : Tree Label) → J' k (D t) (D u) → J k t u
  fro = back r c q steps trees

  -- ---- alike

  plain_label_dressed : (l : Label) → plain_label (dressed_label r l) ≡ l
  plain_label_dressed (file name d) = refl
  plain_label_dressed (operator op d) = refl

  zip_to : (k : ℕ) (ts us : Trees Label) → AllZip (J k) (list_of ts) (list_of us) → AllZip (J' k) (list_of (map_trees (dressed_label r) ts)) (list_of (map_trees (dressed_label r) us))
  zip_to k nil nil h = tt
  zip_to k nil (cons u us) h = absurd h
  zip_to k (cons t ts) nil h = absurd h
  zip_to k (cons t ts) (cons u us) h = (to k t u h.0, zip_to k ts us h.1)

  zip_fro : (k : ℕ) (ts us : Trees Label) → AllZip (J' k) (list_of (map_trees (dressed_label r) ts)) (list_of (map_trees (dressed_label r) us)) → AllZip (J k) (list_of ts) (list_of us)
  zip_fro k nil nil h = tt
  zip_fro k nil (cons u us) h = absurd h
  zip_fro k (cons t ts) nil h = absurd h
  zip_fro k (cons t ts) (cons u us) h = (fro k t u h.0, zip_fro k ts us h.1)

  alike_to : (k : ℕ) (t u : Tree Label) → Alike r c q k t u → Alike' k (D t) (D u)
  alike_to k (node l ts) (node m us) h = (ap (dressed_label r) h.0, zip_to k ts us h.1)

  alike_fro : (k : ℕ) (t u : Tree Label) → Alike' k (D t) (D u) → Alike r c q k t u
  alike_fro k (node l ts) (node m us) h = (sym (plain_label_dressed l) ∙ (ap plain_label h.0 ∙ plain_label_dressed m), zip_fro k ts us h.1)

  -- ---- too many trees

  counts : (t : Tree Label) → not (is_on_edge (label (D t))) ≡ is_counted r (label t)
  counts (node (file name d) ts) = refl
  counts (node (operator op d) ts) = refl

  abbrev Counted : ℕ → Tree Label → Type 0
  Counted k t = J k t t × (is_counted r (label t) ≡ true)

  abbrev Counted' : ℕ → Tree TreeLabel → Type 0
  Counted' k v = J' k v v × (not (is_on_edge (label v)) ≡ true)

  some_tree : Tree Label
  some_tree = tree (file [] []) []

  -- a tree that is met is dressed
  abbrev undress : Tree TreeLabel → Tree Label
  undress = map_tree plain_label

  undressed : (k : ℕ) (v : Tree TreeLabel) → J' k v v → v ≡ D (undress v)
  undressed k v h =
      let o = only_dressed r c q steps trees h in
      let same : undress v ≡ o.0 = ap undress o.2 ∙ mapped_and_back (dressed_label r) plain_label plain_label_dressed o.0 in
      o.2 ∙ ap D (sym same)

  full_to : (k n : ℕ) → Full r c q k n → equality.HasDifferent (dressed_step r c) (dressed r q) (λ l. not (is_on_edge l) ≡ true) k (suc n)
  full_to k n (ts, long, all, apart) = (
    map D ts,
    (let e = length-map ts D in omega (arith, e, long)),
    all_mapped D (Counted k) (Counted' k) some_tree ts (λ t h. (to k t t h.0, counts t ∙ h.1)) all,
    pairs_mapped D (λ t u. ¬ Alike r c q k t u) (λ v w. ¬ Alike' k v w) some_tree ts (λ i j a b h alike. h (alike_fro k (slice_index_or ts i some_tree) (slice_index_or ts j some_tree) alike)) apart,
  )

  some_dressed : Tree TreeLabel
  some_dressed = D some_tree

  full_fro : (k n : ℕ) → equality.HasDifferent (dressed_step r c) (dressed r q) (λ l. not (is_on_edge l) ≡ true) k (suc n) → Full r c q k n
  full_fro k n (vs, long, all, apart) = (
    map undress vs,
    (let e = length-map vs undress in omega (arith, e, long)),
    all_mapped undress (Counted' k) (Counted k) some_dressed vs
        (λ v h. let e = undressed k v h.0 in (fro k (undress v) (undress v) (subst (λ x. J' k x x) e h.0), sym (counts (undress v)) ∙ (ap (λ x. not (is_on_edge (label x))) (sym e) ∙ h.1))) all,
    pairs_mapped undress (λ v w. ¬ Alike' k v w) (λ t u. ¬ Alike r c q k t u) some_dressed vs
        (λ i j a b h alike.
        let v = slice_index_or vs i some_dressed in
        let w = slice_index_or vs j some_dressed in
        let ev = undressed k v (all i some_dressed a).0 in
        let ew = undressed k w (all j some_dressed b).0 in
        h (subst (λ x. Alike' k x w) (sym ev) (subst (λ y. Alike' k (D (undress v)) y) (sym ew) (alike_to k (undress v) (undress w) alike)))) apart,
  )

  pub full_dressed : (k n : ℕ) → Full r c q k n ↔ equality.HasDifferent (dressed_step r c) (dressed r q) (λ l. not (is_on_edge l) ≡ true) k (suc n)
  full_dressed k n = (full_to k n, full_fro k n)

  -- ---- a tree in itself

  inputs_dressed : (t : Tree Label) → inputs (D t) ≡ map D (inputs t)
  inputs_dressed (node l ts) = each ts where
    each : (ts : Trees Label) → list_of (map_trees (dressed_label r) ts) ≡ map D (list_of ts)
    each nil = refl
    each (cons t ts) = ap (λ xs. D t ∷ xs) (each ts)

  contains_mapped : (xs : List (Tree Label)) (t : Tree Label) → Contains xs t → Contains (map D xs) (D t)
  contains_mapped xs t (i, within, is) = let e = length-map xs D in (i, omega (arith, e, within), map_at D xs i (D t) t within ∙ ap D is)

  contains_fro : (xs : List (Tree Label)) (v : Tree TreeLabel) → Contains (map D xs) v → (u : Tree Label) × (v ≡ D u) × Contains xs u
  contains_fro xs v (i, within, is) =
      let e = length-map xs D in
      let low : i < length xs = omega (arith, e, within) in
      let u = slice_index_or xs i some_tree in
      (u, sym is ∙ map_at D xs i v some_tree low, (i, low, any_default xs i u some_tree low))

  part_to : (u t : Tree Label) → IsProperPart u t → IsProperPart (D u) (D t)
  part_to u t (of_input in_t) = of_input (subst (λ xs. Contains xs (D u)) (sym (inputs_dressed t)) (contains_mapped (inputs t) u in_t))
  part_to u t (of_part {s} p in_t) = of_part (part_to u s p) (subst (λ xs. Contains xs (D s)) (sym (inputs_dressed t)) (contains_mapped (inputs t) s in_t))

  abbrev PartOf : Tree TreeLabel → Tree Label → Type 0
  PartOf w t = (u : Tree Label) × (w ≡ D u) × IsProperPart u t

  part_fro : (w v : Tree TreeLabel) (t : Tree Label) → v ≡ D t → IsProperPart w v → PartOf w t
  part_fro w v t is (of_input in_v) =
      let h = contains_fro (inputs t) w (subst (λ xs. Contains xs w) (ap inputs is ∙ inputs_dressed t) in_v) in
      (h.0, h.1, of_input h.2)
  part_fro w v t is (of_part {s} p in_v) =
      let h = contains_fro (inputs t) s (subst (λ xs. Contains xs s) (ap inputs is ∙ inputs_dressed t) in_v) in
      let g = part_fro w s h.0 h.1 p in
      (g.0, g.1, of_part g.2 h.2)

  label_fro : (t : Tree Label) (op : ℕ) (d v : Desc) (b : Bool) → label (D t) ≡ variant.Node op d v b → label t ≡ operator op d
  label_fro (node l ts) op d v b is = sym (plain_label_dressed l) ∙ ap plain_label is

  label_to : (t : Tree Label) (op : ℕ) (d : Desc) → label t ≡ operator op d → label (D t) ≡ variant.Node op d (only r.properties (seen r) d) (enforces r op)
  label_to (node l ts) op d is = ap (dressed_label r) is

  pub loop_dressed : (op : ℕ) → LoopAt r c q op ↔ ((d v : Desc) × (b : Bool) × DressedLoop r c q (variant.Node op d v b))
  loop_dressed op = (
    λ (t, u, (k, p), part, (d, is)). (d, only r.properties (seen r) d, enforces r op, (D t, D u, (k, to k t u p), part_to u t part, label_to t op d is)),
    loop_fro,
  )
    where
      loop_fro : ((d v : Desc) × (b : Bool) × DressedLoop r c q (variant.Node op d v b)) → LoopAt r c q op
      loop_fro (d, e, b, (v, w, (k, p), part, is)) =
          let (t, u, t_is, u_is, p') = only_dressed r c q steps trees p in
          let (s, s_is, part') = part_fro w v t t_is part in
          let same : s ≡ u = same_tree r c q steps trees s u (sym s_is ∙ u_is) in
          (t, u, (k, p'), subst (λ x. IsProperPart x t) same part', (d, label_fro t op d e b (ap label (sym t_is) ∙ is)))
