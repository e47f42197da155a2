-- A match has as many slots as its side has operators and streams.
use Rattle.std.proofs.Common.{◌≡◌, ℕ, suc, ◌+◌, Bool, true, false, cond, List, [], ◌∷◌, ◌++◌, length, map, Option, Some, None, option_map, refl, ap, sym, ◌∙◌, subst, arith, length-append}
use Rattle.action_eval.proofs.TypeLaws.{some-same}
use Rattle.pr_value.proofs.Shelf.{option_map-some, option_and_then-some}
use Rattle.pr_value.specs.Trees.{Tree, Trees, node, nil, cons}
use Rattle.rule_ast.specs.Descs.{node_descs, nodes_descs, stream_descs, streams_descs, right_descs, rights_descs}
use Rattle.rule_ast.specs.Syntax.{LeftLabel, RightLabel, Operator}
use Rattle.rule_runs.specs.Laws.{IsWhole, operators_of, all_operators_of, streams_of, all_streams_of}
use Rattle.rule_runs.specs.Matching.{Matched, Rooted, matched, all_matched, with_node, and_match, is_number}
use Rattle.rule_runs.specs.Sides.{Side, SideLabel, operator, stream, left_side_in, left_sides_in, right_side_in, right_sides_in}

pub chosen : {X : Type 0} (b : Bool) (o : Option X) (x : X) → cond b o None ≡ Some x → o ≡ Some x
chosen true o x e = e
chosen false o x e = cc

-- so many descriptors of nodes, and so many views and things
record HasAsMany {A : Type 0} (nodes streams : ℕ) (m : Matched A) : Type 0 where
  of_nodes : length m.slots.nodes ≡ nodes
  of_views : length m.slots.streams ≡ streams
  of_streams : length m.streams ≡ streams

both-many : {A : Type 0} (a b c d : ℕ) (m n k : Matched A) → HasAsMany a b m → HasAsMany c d n → and_match m n ≡ k → HasAsMany (a + c) (b + d) k
both-many a b c d m n k one other same =
    let p = length-append m.slots.nodes n.slots.nodes in
    let q = length-append m.slots.streams n.slots.streams in
    let s = length-append m.streams n.streams in
    let e = one.of_nodes in
    let f = one.of_views in
    let g = one.of_streams in
    let h = other.of_nodes in
    let i = other.of_views in
    let j = other.of_streams in
    subst (HasAsMany (a + c) (b + d)) same (record { of_nodes = omega (arith, p, e, h); of_views = omega (arith, q, f, i); of_streams = omega (arith, s, g, j) })

node-many : {A : Type 0} (a b : ℕ) (d : _) (m n : Matched A) → HasAsMany a b m → with_node d m ≡ n → HasAsMany (suc a) b n
node-many a b d m n one same = subst (HasAsMany (suc a) b) same (record { of_nodes = ap suc one.of_nodes; of_views = one.of_views; of_streams = one.of_streams })

module _ {A : Type 0} (roots : Rooted A) where
  mutual
    matched-many : (p : Side) (a : A) (m : Matched A) → matched roots p a ≡ Some m → HasAsMany (operators_of p) (streams_of p) m
    matched-many (node (stream n) ls) a m e = subst (HasAsMany 0 1) (some-same e) (record { of_nodes = refl; of_views = refl; of_streams = refl })
    matched-many (node (operator op) ls) a m e =
        let found = option_map-some (with_node (roots.whole a)) (all_matched roots ls (roots.inputs a)) m (chosen (is_number (roots.op a) op) (option_map (with_node (roots.whole a)) (all_matched roots ls (roots.inputs a))) m e) in
        node-many (all_operators_of ls) (all_streams_of ls) (roots.whole a) found.0 m (all_matched-many ls (roots.inputs a) found.0 found.1) found.2

    all_matched-many : (ps : Trees SideLabel) (xs : List A) (m : Matched A) → all_matched roots ps xs ≡ Some m → HasAsMany (all_operators_of ps) (all_streams_of ps) m
    all_matched-many nil [] m e = subst (HasAsMany 0 0) (some-same e) (record { of_nodes = refl; of_views = refl; of_streams = refl })
    all_matched-many nil (a ∷ xs) m e = cc
    all_matched-many (cons p ps) [] m e = cc
    all_matched-many (cons p ps) (a ∷ xs) m e =
        let one = option_and_then-some (λ (k : Matched A). option_map (and_match k) (all_matched roots ps xs)) (matched roots p a) m e in
        let others = option_map-some (and_match one.0) (all_matched roots ps xs) m one.2 in
        both-many (operators_of p) (streams_of p) (all_operators_of ps) (all_streams_of ps) one.0 others.0 m (matched-many p a one.0 one.1) (all_matched-many ps xs others.0 others.1) others.2

  pub matched-whole : (p : Side) (a : A) (m : Matched A) → matched roots p a ≡ Some m → IsWhole p m
  matched-whole p a m e = let h = matched-many p a m e in record { nodes = h.of_nodes; views = h.of_views; streams = h.of_streams }

-- ---- how many there are

module _ (os : List Operator) (ns : List ℕ) where
  mutual
    pub left-operators : (l : Tree LeftLabel) → operators_of (left_side_in os ns l) ≡ length (node_descs l)
    left-operators (node (LeftLabel.operator o d) ls) = ap suc (lefts-operators ls)
    left-operators (node (LeftLabel.stream n d) ls) = refl

    lefts-operators : (ls : Trees LeftLabel) → all_operators_of (left_sides_in os ns ls) ≡ length (nodes_descs ls)
    lefts-operators nil = refl
    lefts-operators (cons l ls) = let a = left-operators l in let b = lefts-operators ls in let c = length-append (node_descs l) (nodes_descs ls) in omega (arith, a, b, c)

  mutual
    pub left-streams : (l : Tree LeftLabel) → streams_of (left_side_in os ns l) ≡ length (stream_descs l)
    left-streams (node (LeftLabel.operator o d) ls) = lefts-streams ls
    left-streams (node (LeftLabel.stream n d) ls) = refl

    lefts-streams : (ls : Trees LeftLabel) → all_streams_of (left_sides_in os ns ls) ≡ length (streams_descs ls)
    lefts-streams nil = refl
    lefts-streams (cons l ls) = let a = left-streams l in let b = lefts-streams ls in let c = length-append (stream_descs l) (streams_descs ls) in omega (arith, a, b, c)

  mutual
    pub right-operators : (x : Tree RightLabel) → operators_of (right_side_in os ns x) ≡ length (right_descs x)
    right-operators (node (RightLabel.operator o d) rs) = ap suc (rights-operators rs)
    right-operators (node (RightLabel.stream n) rs) = refl

    rights-operators : (rs : Trees RightLabel) → all_operators_of (right_sides_in os ns rs) ≡ length (rights_descs rs)
    rights-operators nil = refl
    rights-operators (cons x rs) = let a = right-operators x in let b = rights-operators rs in let c = length-append (right_descs x) (rights_descs rs) in omega (arith, a, b, c)

-- ---- what is seen of streams

map-append : {X Y : Type 0} (f : X → Y) (xs ys : List X) → map f (xs ++ ys) ≡ map f xs ++ map f ys
map-append f [] ys = refl
map-append f (x ∷ xs) ys = ap (λ zs. f x ∷ zs) (map-append f xs ys)

module _ {A : Type 0} (roots : Rooted A) where
  -- each view is that of its stream's thing
  abbrev Views : Matched A → Type 0
  Views m = m.slots.streams ≡ map roots.view m.streams

  mutual
    pub matched-views : (p : Side) (a : A) (m : Matched A) → matched roots p a ≡ Some m → m.slots.streams ≡ map roots.view m.streams
    matched-views (node (stream n) ls) a m e = subst Views (some-same e) refl
    matched-views (node (operator op) ls) a m e =
        let found = option_map-some (with_node (roots.whole a)) (all_matched roots ls (roots.inputs a)) m (chosen (is_number (roots.op a) op) (option_map (with_node (roots.whole a)) (all_matched roots ls (roots.inputs a))) m e) in
        subst Views found.2 (all_matched-views ls (roots.inputs a) found.0 found.1)

    all_matched-views : (ps : Trees SideLabel) (xs : List A) (m : Matched A) → all_matched roots ps xs ≡ Some m → m.slots.streams ≡ map roots.view m.streams
    all_matched-views nil [] m e = subst Views (some-same e) refl
    all_matched-views nil (a ∷ xs) m e = cc
    all_matched-views (cons p ps) [] m e = cc
    all_matched-views (cons p ps) (a ∷ xs) m e =
        let one = option_and_then-some (λ (k : Matched A). option_map (and_match k) (all_matched roots ps xs)) (matched roots p a) m e in
        let others = option_map-some (and_match one.0) (all_matched roots ps xs) m one.2 in
        subst Views others.2 ((λ i. matched-views p a one.0 one.1 i ++ all_matched-views ps xs others.0 others.1 i) ∙ sym (map-append roots.view one.0.streams others.0.streams))
