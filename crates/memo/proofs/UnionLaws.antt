-- Numbers under older ones.
use Rattle.std.proofs.Common.{◌≡◌, ℕ, zero, suc, ◌<◌, ◌≤◌, List, [], ◌∷◌, length, Some, Result, Ok, Err, slice_get, slice_set, slice_index_or, refl, ap, sym, ◌∙◌, subst, arith, inl, inr}
use Rattle.std.specs.Prelude.{◌⊎◌, IfOk}
use Rattle.derivation.specs.declared.reason.Line.{Line}
use Rattle.memo.specs.declared.union.Up.{Up}
use Rattle.memo.specs.declared.expr.Join.{Join}
use Rattle.memo.specs.Forest.{HasLine}
use Rattle.memo.specs.Union.{IsUnion, IsRootOf, stop, up, SameRoot, Equates2, IsRootLine, IsUpTo, IsUnder, IsLinked, IsTied, turned, chained, Betweens, SameTrees}
use Rattle.memo.specs.Grew.{Grew, Chains, Turns}
use Rattle.memo.proofs.GrewLaws.{line_still, grew_trans}
use Rattle.derivation.specs.Log.{LogValue}

some_is : {A : Type 0} (a b : A) → Some a ≡ Some b → a ≡ b
some_is a b e = cc

pub within : {A : Type 0} (xs : List A) (i : ℕ) (x : A) → slice_get xs i ≡ Some x → i < length xs
within [] i x e = cc
within (y ∷ xs) zero x e = omega arith
within (y ∷ xs) (suc i) x e = let h = within xs i x e in omega (arith, h)

pub set_same : {A : Type 0} (xs : List A) (i : ℕ) (x y : A) → slice_get xs i ≡ Some x → slice_get (slice_set xs i y) i ≡ Some y
set_same [] i x y e = cc
set_same (z ∷ xs) zero x y e = refl
set_same (z ∷ xs) (suc i) x y e = set_same xs i x y e

pub set_other : {A : Type 0} (xs : List A) (i j : ℕ) (y : A) → (i ≡ j → ⊥) → slice_get (slice_set xs i y) j ≡ slice_get xs j
set_other [] i j y other = refl
set_other (z ∷ xs) zero zero y other = absurd (other refl)
set_other (z ∷ xs) zero (suc j) y other = refl
set_other (z ∷ xs) (suc i) zero y other = refl
set_other (z ∷ xs) (suc i) (suc j) y other = set_other xs i j y (λ e. other (ap suc e))

pub same_or : (i j : ℕ) → (i ≡ j) ⊎ (i ≡ j → ⊥)
same_or zero zero = inl refl
same_or zero (suc j) = inr (λ e. let b : ⊥ = omega (arith, e) in b)
same_or (suc i) zero = inr (λ e. let b : ⊥ = omega (arith, e) in b)
same_or (suc i) (suc j) = elim (same_or i j) [ inl e ↦ inl (ap suc e) | inr n ↦ inr (λ e. n (let f : i ≡ j = omega (arith, e) in f)) ]

strict : (p i k : ℕ) → p ≤ i → (p ≡ i → ⊥) → i < suc k → p < k
strict zero zero k l n h = absurd (n refl)
strict zero (suc i) k l n h = omega (arith, h)
strict (suc p) zero k l n h = let e : ⊥ = omega (arith, l) in absurd e
strict (suc p) (suc i) zero l n h = let e : ⊥ = omega (arith, h) in absurd e
strict (suc p) (suc i) (suc k) l n h = let r = strict p i k (omega (arith, l)) (λ e. n (ap suc e)) (omega (arith, h)) in omega (arith, r)

module _ (ups : List Up) where
  -- a number has one root
  pub one_root : {i r s : ℕ} → IsRootOf ups i r → IsRootOf ups i s → r ≡ s
  one_root (stop u at is) (stop v at' is') = refl
  one_root {i} (stop u at is) (up v at' low rest) = let e : ⊥ = (let same : u.parent ≡ v.parent = ap (λ (x : Up). x.parent) (some_is u v (sym at ∙ at')) in omega (arith, is, low, same)) in absurd e
  one_root {i} (up u at low rest) (stop v at' is) = let e : ⊥ = (let same : u.parent ≡ v.parent = ap (λ (x : Up). x.parent) (some_is u v (sym at ∙ at')) in omega (arith, is, low, same)) in absurd e
  one_root {i} {r} {s} (up u at low rest) (up v at' low' rest') = one_root rest (subst (λ p. IsRootOf ups p s) (ap (λ (x : Up). x.parent) (some_is v u (sym at' ∙ at))) rest')

  -- the root is its own
  pub root_stops : {i r : ℕ} → IsRootOf ups i r → (u : Up) × (slice_get ups r ≡ Some u) × (u.parent ≡ r)
  root_stops (stop u at is) = (u, at, is)
  root_stops (up u at low rest) = root_stops rest

  pub root_low : {i r : ℕ} → IsRootOf ups i r → r ≤ i
  root_low (stop u at is) = omega arith
  root_low (up u at low rest) = let h = root_low rest in omega (arith, h, low)

  pub root_there : {i r : ℕ} → IsRootOf ups i r → (u : Up) × (slice_get ups i ≡ Some u)
  root_there (stop u at is) = (u, at)
  root_there (up u at low rest) = (u, at)

  pub above : {i r : ℕ} (u : Up) → slice_get ups i ≡ Some u → u.parent ≤ i → IsRootOf ups u.parent r → IsRootOf ups i r
  above {i} {r} u at low rest = by (same_or u.parent i)
    where
      by : (u.parent ≡ i) ⊎ (u.parent ≡ i → ⊥) → IsRootOf ups i r
      by (inl e) = subst (λ p. IsRootOf ups p r) e rest
      by (inr n) = up u at (below u.parent i low n) rest
        where
          below : (p i : ℕ) → p ≤ i → (p ≡ i → ⊥) → p < i
          below zero zero h n = absurd (n refl)
          below zero (suc i) h n = omega arith
          below (suc p) zero h n = let e : ⊥ = omega (arith, h) in absurd e
          below (suc p) (suc i) h n = let r = below p i (omega (arith, h)) (λ e. n (ap suc e)) in omega (arith, r)

  pub tied_trans : (x y z : ℕ) → SameRoot ups x y → SameRoot ups y z → SameRoot ups x z
  tied_trans x y z (r, a, b) (s, c, d) = (r, a, subst (IsRootOf ups z) (one_root c b) d)

  module _ (lines : List Line) (union : IsUnion lines ups) where
    -- each number has a root
    roots_below : (k i : ℕ) (u : Up) → i < k → slice_get ups i ≡ Some u → (r : ℕ) × IsRootOf ups i r
    roots_below zero i u h at = let e : ⊥ = omega (arith, h) in absurd e
    roots_below (suc k) i u h at =
        let (p, at_p, has) = union.up i u at in
        let low = union.older i u at in
        elim (same_or u.parent i) [
          | inl e ↦ (i, stop u at e)
          | inr n ↦ let (r, root) = roots_below k u.parent p (strict u.parent i k low n h) at_p in (r, above u at low root)
        ]

    pub has_root : (i : ℕ) (u : Up) → slice_get ups i ≡ Some u → (r : ℕ) × IsRootOf ups i r
    has_root i u at = roots_below (suc i) i u (omega arith) at

-- a root that is put under an older one
module _ (old new : List Up) (b a : ℕ) (u v : Up) (at : slice_get old b ≡ Some u) (root_b : u.parent ≡ b) (w : Up) (at_a : slice_get old a ≡ Some w) (root_a : w.parent ≡ a) (low : a < b) (parent : v.parent ≡ a) (is : new ≡ slice_set old b v) where
  at_b : slice_get new b ≡ Some v
  at_b = ap (λ w. slice_get w b) is ∙ set_same old b u v at

  at_other : (i : ℕ) → (b ≡ i → ⊥) → slice_get new i ≡ slice_get old i
  at_other i n = ap (λ w. slice_get w i) is ∙ set_other old b i v n

  a_stops : IsRootOf new a a
  a_stops = stop w (at_other a (λ e. let f : ⊥ = omega (arith, e, low) in f) ∙ at_a) root_a

  -- what had the root b has a now, and all else keeps its root
  pub moved_root : {x r : ℕ} → IsRootOf old x r → ((r ≡ b) × IsRootOf new x a) ⊎ ((r ≡ b → ⊥) × IsRootOf new x r)
  moved_root {x} (stop t at_x own) = by (same_or x b)
    where
      by : (x ≡ b) ⊎ (x ≡ b → ⊥) → ((x ≡ b) × IsRootOf new x a) ⊎ ((x ≡ b → ⊥) × IsRootOf new x x)
      by (inl e) = inl (e, subst (λ y. IsRootOf new y a) (sym e) (up v at_b (subst (λ p. p < b) (sym parent) low) (subst (λ p. IsRootOf new p a) (sym parent) a_stops)))
      by (inr n) = inr (n, stop t (at_other x (λ e. n (sym e)) ∙ at_x) own)
  moved_root {x} {r} (up t at_x under rest) =
      let other : b ≡ x → ⊥ = λ e. (let same : t ≡ u = some_is t u (sym at_x ∙ ap (λ i. slice_get old i) (sym e) ∙ at) in let p : t.parent ≡ u.parent = ap (λ (z : Up). z.parent) same in let f : ⊥ = omega (arith, p, under, root_b, e) in f) in
      elim (moved_root rest) [
        | inl h ↦ inl (h.0, up t (at_other x other ∙ at_x) under h.1)
        | inr h ↦ inr (h.0, up t (at_other x other ∙ at_x) under h.1)
      ]

  pub still_same : (x y : ℕ) → SameRoot old x y → SameRoot new x y
  still_same x y (r, p, q) = by (moved_root p) (moved_root q)
    where
      by : ((r ≡ b) × IsRootOf new x a) ⊎ ((r ≡ b → ⊥) × IsRootOf new x r) → ((r ≡ b) × IsRootOf new y a) ⊎ ((r ≡ b → ⊥) × IsRootOf new y r) → SameRoot new x y
      by (inl h) (inl k) = (a, h.1, k.1)
      by (inl h) (inr k) = absurd (k.0 h.0)
      by (inr h) (inl k) = absurd (h.0 k.0)
      by (inr h) (inr k) = (r, h.1, k.1)

  pub now_same : (x y : ℕ) → IsRootOf old x a → IsRootOf old y b → SameRoot new x y
  now_same x y p q = by (moved_root p) (moved_root q)
    where
      by : ((a ≡ b) × IsRootOf new x a) ⊎ ((a ≡ b → ⊥) × IsRootOf new x a) → ((b ≡ b) × IsRootOf new y a) ⊎ ((b ≡ b → ⊥) × IsRootOf new y b) → SameRoot new x y
      by (inl h) (inl k) = (a, h.1, k.1)
      by (inl h) (inr k) = absurd (k.0 refl)
      by (inr h) (inl k) = (a, h.1, k.1)
      by (inr h) (inr k) = absurd (k.0 refl)

between_made : {L S : Type 0} (old one two new : LogValue L S) (to_b across to_a from_b half i : ℕ) → Grew old one → Grew one two → Turns old one to_b from_b → Chains one two from_b across half → Chains two new half to_a i → Betweens old new to_b across to_a i
between_made old one two new to_b across to_a from_b half i g h turns chains ends k l m n b c a =
    let back : HasLine one.lines from_b n m = turns m n b in
    let mid : HasLine two.lines half n l = chains n m l back (line_still old one across m l g c) in
    ends n l k mid (line_still old two to_a l k (grew_trans old one two g h) a)

pub between_ok : {L S E : Type 0} (old one two new : LogValue L S) (to_b across to_a from_b half : ℕ) (r : Result ℕ E) → Grew old one → Grew one two → Turns old one to_b from_b → Chains one two from_b across half → IfOk r (Chains two new half to_a) → IfOk r (Betweens old new to_b across to_a)
between_ok old one two new to_b across to_a from_b half (Ok i) g h turns chains ends = between_made old one two new to_b across to_a from_b half i g h turns chains ends
between_ok old one two new to_b across to_a from_b half (Err e) g h turns chains ends = tt

module _ {L S : Type 0} (old new : LogValue L S) (grew : Grew old new) where
  pub union_grew : (ups : List Up) → IsUnion old.lines ups → IsUnion new.lines ups
  union_grew ups u = record {
    older = u.older;
    up = λ i v at. let (p, at_p, has) = u.up i v at in (p, at_p, line_still old new v.line v.tree p.tree grew has);
  }

  pub equates_grew : (ups : List Up) (i x y : ℕ) → Equates2 old.lines ups i x y → Equates2 new.lines ups i x y
  equates_grew ups i x y (a, b, at_a, at_b, has) = (a, b, at_a, at_b, line_still old new i a.tree b.tree grew has)

-- a number's own line leads up to its parent
pub up_first : (lines : List Line) (ups : List Up) (i : ℕ) (u : Up) → IsUnion lines ups → slice_get ups i ≡ Some u → IsUpTo lines ups i u.parent u.line
up_first lines ups i u union at =
    let (p, at_p, has) = union.up i u at in record {
      roots = λ r root. above ups u at (union.older i u at) root;
      equates = (u, p, at, at_p, has);
    }

-- and so on
pub up_more : {L S : Type 0} (old new : LogValue L S) (ups : List Up) (i at line next : ℕ) (u : Up) → IsUnion old.lines ups → IsUpTo old.lines ups i at line → slice_get ups at ≡ Some u → Chains old new line u.line next → IsUpTo new.lines ups i u.parent next
up_more old new ups i at line next u union up_to at_u chains =
    let (p, at_p, has) = union.up at u at_u in
    let (a, b, at_a, at_b, led) = up_to.equates in
    let same : b ≡ u = some_is b u (sym at_b ∙ at_u) in record {
      roots = λ r root. up_to.roots r (above ups u at_u (union.older at u at_u) root);
      equates = (a, p, at_a, at_p, chains a.tree u.tree p.tree (subst (λ (x : Up). HasLine old.lines line a.tree x.tree) same led) has);
    }

pub up_last : (lines : List Line) (ups : List Up) (i at line : ℕ) (u : Up) → IsUnion lines ups → IsUpTo lines ups i at line → slice_get ups at ≡ Some u → at ≤ u.parent → IsRootLine lines ups i (at, line)
up_last lines ups i at line u union up_to at_u high =
    let low = union.older at u at_u in let own : u.parent ≡ at = omega (arith, low, high) in (up_to.roots at (stop u at_u own), up_to.equates)

module _ {L S : Type 0} (old new : LogValue L S) (ups : List Up) where
  pub turn_equates : (of i x y : ℕ) → Turns old new of i → Equates2 old.lines ups of x y → Equates2 new.lines ups i y x
  turn_equates of i x y turns (a, b, at_a, at_b, has) = (b, a, at_b, at_a, turns a.tree b.tree has)

  pub between_equates : (to_b across to_a i x y p q : ℕ) → Betweens old new to_b across to_a i → Equates2 old.lines ups to_b x p → Equates2 old.lines ups across x y → Equates2 old.lines ups to_a y q → Equates2 new.lines ups i p q
  between_equates to_b across to_a i x y p q betweens (a, b, at_a, at_b, has) (a', c, at_a', at_c, has') (c', d, at_c', at_d, has'') =
      let same_a : a' ≡ a = some_is a' a (sym at_a' ∙ at_a) in
      let same_c : c' ≡ c = some_is c' c (sym at_c' ∙ at_c) in
      (b, d, at_b, at_d, betweens d.tree c.tree a.tree b.tree has (subst (λ (w : Up). HasLine old.lines across w.tree c.tree) same_a has') (subst (λ (w : Up). HasLine old.lines to_a w.tree d.tree) same_c has''))

pub under_made : (lines : List Line) (ups new : List Up) (a b line : ℕ) → a < b → Equates2 lines ups line b a → ((u : Up) × (slice_get ups b ≡ Some u) × (new ≡ slice_set ups b (record { tree = u.tree; parent = a; line = line }))) → IsUnder lines ups new b a
under_made lines ups new a b line low (u, w, at_b, at_a, has) (u', at_b', is) =
    let same : u' ≡ u = some_is u' u (sym at_b' ∙ at_b) in
    (low, (u, w, line, at_b, at_a, has, is ∙ ap (λ (v : Up). slice_set ups b (record { tree = v.tree; parent = a; line = line })) same))

pub no_change : (lines : List Line) (ups : List Up) (x y a b : ℕ) → IsRootOf ups x a → IsRootOf ups y b → b ≤ a → a ≤ b → IsLinked lines ups ups x y
no_change lines ups x y a b root_a root_b low high = let same : a ≡ b = omega (arith, low, high) in (a, b, root_a, root_b, inl (same, refl))

pub length_set : {A : Type 0} (xs : List A) (i : ℕ) (x : A) → length (slice_set xs i x) ≡ length xs
length_set [] i x = refl
length_set (y ∷ xs) zero x = refl
length_set (y ∷ xs) (suc i) x = ap suc (length_set xs i x)

pub got : {A : Type 0} (xs : List A) (i : ℕ) → i < length xs → (x : A) × (slice_get xs i ≡ Some x)
got [] i h = let n : ⊥ = omega (arith, h) in absurd n
got (x ∷ xs) zero h = (x, refl)
got (x ∷ xs) (suc i) h = got xs i (omega (arith, h))

-- one root is put under an older one
module _ (lines : List Line) (old new : List Up) (b a : ℕ) (union : IsUnion lines old) (own_a : (w : Up) × (slice_get old a ≡ Some w) × (w.parent ≡ a)) (own_b : (w : Up) × (slice_get old b ≡ Some w) × (w.parent ≡ b)) (under : IsUnder lines old new b a) where
  abbrev new_up : Up
  new_up = record { tree = under.1.0.tree; parent = a; line = under.1.2 }

  abbrev b_is_root : under.1.0.parent ≡ b
  b_is_root = ap (λ (x : Up). x.parent) (some_is under.1.0 own_b.0 (sym under.1.3 ∙ own_b.1)) ∙ own_b.2

  moved : {x r : ℕ} → IsRootOf old x r → ((r ≡ b) × IsRootOf new x a) ⊎ ((r ≡ b → ⊥) × IsRootOf new x r)
  moved p = moved_root old new b a under.1.0 new_up under.1.3 b_is_root own_a.0 own_a.1 own_a.2 under.0 refl under.1.6 p

  pub under_kept : (x y : ℕ) → SameRoot old x y → SameRoot new x y
  under_kept x y s = still_same old new b a under.1.0 new_up under.1.3 b_is_root own_a.0 own_a.1 own_a.2 under.0 refl under.1.6 x y s

  pub under_ties : (x y : ℕ) → IsRootOf old x a → IsRootOf old y b → SameRoot new x y
  under_ties x y p q = now_same old new b a under.1.0 new_up under.1.3 b_is_root own_a.0 own_a.1 own_a.2 under.0 refl under.1.6 x y p q

  at_new : (i : ℕ) (u : Up) → slice_get new i ≡ Some u → ((i ≡ b) × (u ≡ new_up)) ⊎ ((b ≡ i → ⊥) × (slice_get old i ≡ Some u))
  at_new i u at = by (same_or b i)
    where
      by : (b ≡ i) ⊎ (b ≡ i → ⊥) → ((i ≡ b) × (u ≡ new_up)) ⊎ ((b ≡ i → ⊥) × (slice_get old i ≡ Some u))
      by (inl e) = inl (sym e, some_is u new_up (sym at ∙ ap (λ w. slice_get w i) under.1.6 ∙ ap (λ k. slice_get (slice_set old b new_up) k) (sym e) ∙ set_same old b under.1.0 new_up under.1.3))
      by (inr n) = inr (n, sym (set_other old b i new_up n) ∙ ap (λ w. slice_get w i) (sym under.1.6) ∙ at)

  tree_still : (i : ℕ) (p : Up) → slice_get old i ≡ Some p → (q : Up) × (slice_get new i ≡ Some q) × (q.tree ≡ p.tree)
  tree_still i p at = by (same_or b i)
    where
      by : (b ≡ i) ⊎ (b ≡ i → ⊥) → (q : Up) × (slice_get new i ≡ Some q) × (q.tree ≡ p.tree)
      by (inl e) = (
        new_up,
        ap (λ w. slice_get w i) under.1.6 ∙ ap (λ k. slice_get (slice_set old b new_up) k) (sym e) ∙ set_same old b under.1.0 new_up under.1.3,
        ap (λ (x : Up). x.tree) (some_is under.1.0 p (sym under.1.3 ∙ ap (λ k. slice_get old k) e ∙ at)),
      )
      by (inr n) = (p, ap (λ w. slice_get w i) under.1.6 ∙ set_other old b i new_up n ∙ at, refl)

  pub under_union : IsUnion lines new
  under_union = record {
    older = λ i u at. elim (at_new i u at) [
      | inl h ↦ subst (λ (x : Up). x.parent ≤ i) (sym h.1) (let low = under.0 in let e = h.0 in omega (arith, low, e))
      | inr h ↦ union.older i u h.1
    ];
    up = λ i u at. elim (at_new i u at) [
      | inl h ↦ let (q, at_q, tree) = tree_still a under.1.1 under.1.4 in
          subst (λ (x : Up). (p : Up) × (slice_get new x.parent ≡ Some p) × HasLine lines x.line x.tree p.tree) (sym h.1) (q, at_q, subst (HasLine lines under.1.2 under.1.0.tree) (sym tree) under.1.5)
      | inr h ↦ let (p, at_p, has) = union.up i u h.1 in let (q, at_q, tree) = tree_still u.parent p at_p in (q, at_q, subst (HasLine lines u.line u.tree) (sym tree) has)
    ];
  }

  pub under_trees : SameTrees old new
  under_trees = (ap (λ w. length w) under.1.6 ∙ length_set old b new_up, λ i n (p, at, is). let (q, at_q, tree) = tree_still i p at in (q, at_q, tree ∙ is))

  -- what has one root now had one before, or the two roots
  pub under_sound : (first : List Up) (joins : List Join) (x y p q : ℕ) → SameRoot new x y → ((v w : ℕ) → SameRoot old v w → IsTied first joins v w) → IsRootOf old p a → IsRootOf old q b → IsTied first joins p q → IsTied first joins x y
  under_sound first joins x y p q (r, root_x, root_y) old_sound root_p root_q tied =
      let (u, at_u) = root_there new root_x in
      let (v, at_v) = root_there new root_y in
      let (u', at_u') = got old x (let h = within new x u at_u in let l = under_trees.0 in omega (arith, h, l)) in
      let (v', at_v') = got old y (let h = within new y v at_v in let l = under_trees.0 in omega (arith, h, l)) in
      let (s, root_s) = has_root old lines union x u' at_u' in
      let (t, root_t) = has_root old lines union y v' at_v' in
      by s t root_s root_t (moved root_s) (moved root_t)
    where
      by : (s t : ℕ) → IsRootOf old x s → IsRootOf old y t → ((s ≡ b) × IsRootOf new x a) ⊎ ((s ≡ b → ⊥) × IsRootOf new x s) → ((t ≡ b) × IsRootOf new y a) ⊎ ((t ≡ b → ⊥) × IsRootOf new y t) → IsTied first joins x y
      by s t root_s root_t (inl h) (inl k) = old_sound x y (b, subst (IsRootOf old x) h.0 root_s, subst (IsRootOf old y) k.0 root_t)
      by s t root_s root_t (inl h) (inr k) =
          let same : t ≡ a = one_root new k.1 root_y ∙ one_root new root_x h.1 in
          chained (old_sound x q (b, subst (IsRootOf old x) h.0 root_s, root_q)) (chained (turned tied) (old_sound p y (a, root_p, subst (IsRootOf old y) same root_t)))
      by s t root_s root_t (inr h) (inl k) =
          let same : s ≡ a = one_root new h.1 root_x ∙ one_root new root_y k.1 in
          chained (old_sound x p (a, subst (IsRootOf old x) same root_s, root_p)) (chained tied (old_sound q y (b, root_q, subst (IsRootOf old y) k.0 root_t)))
      by s t root_s root_t (inr h) (inr k) = let same : s ≡ t = one_root new h.1 root_x ∙ one_root new root_y k.1 in old_sound x y (t, subst (IsRootOf old x) same root_s, root_t)

pub index_is : {A : Type 0} (xs : List A) (i : ℕ) (d : A) → i < length xs → slice_get xs i ≡ Some (slice_index_or xs i d)
index_is [] i d h = let e : ⊥ = omega (arith, h) in absurd e
index_is (x ∷ xs) zero d h = refl
index_is (x ∷ xs) (suc i) d h = index_is xs i d (omega (arith, h))
