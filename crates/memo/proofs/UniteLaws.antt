-- Joins are made one by one, and numbers put under their roots one by one.
use Rattle.std.proofs.Common.{◌≡◌, ℕ, zero, suc, ◌+◌, ◌<◌, ◌≤◌, List, length, Some, slice_get, slice_set, refl, ap, sym, ◌∙◌, subst, arith, inl, inr}
use Rattle.std.specs.Prelude.{◌⊎◌}
use Rattle.derivation.specs.Log.{LogValue}
use Rattle.derivation.specs.declared.reason.Line.{Line}
use Rattle.memo.specs.declared.union.Up.{Up}
use Rattle.memo.specs.declared.expr.Join.{Join}
use Rattle.memo.specs.Forest.{HasLine}
use Rattle.memo.specs.Grew.{Grew, Chains}
use Rattle.memo.specs.Union.{IsUnion, IsRootOf, stop, SameRoot, Equates2, IsUnder, IsLinked, IsTied, was, joined, turned, SameTrees, AreJoins, IsUniting, IsLifted, IsFlattened}
use Rattle.memo.proofs.UnionLaws.{above, root_stops, union_grew, equates_grew, within, under_union, under_trees, under_kept, under_ties, under_sound, set_same, set_other, same_or, length_set}

some_is : {A : Type 0} (a b : A) → Some a ≡ Some b → a ≡ b
some_is a b e = cc

pub trees_trans : (a b c : List Up) → SameTrees a b → SameTrees b c → SameTrees a c
trees_trans a b c h k = (k.0 ∙ h.0, λ i n at. k.1 i n (h.1 i n at))

-- none of the joins is made yet
pub uniting_none : (lines : List Line) (joins : List Join) (ups : List Up) → IsUnion lines ups → IsUniting lines joins ups ups 0
uniting_none lines joins ups union = record {
  union = union;
  trees = (refl, λ i n at. at);
  kept = λ x y s. s;
  done = λ i j low at. let e : ⊥ = omega (arith, low) in absurd e;
  sound = λ x y s. was s;
}

pub uniting_grew : {L S : Type 0} (old new : LogValue L S) (joins : List Join) (first now : List Up) (n : ℕ) → Grew old new → IsUniting old.lines joins first now n → IsUniting new.lines joins first now n
uniting_grew old new joins first now n grew u = record {
  union = union_grew old new grew now u.union;
  trees = u.trees;
  kept = u.kept;
  done = u.done;
  sound = u.sound;
}

below_or : (i n : ℕ) → i < n + 1 → (i < n) ⊎ (i ≡ n)
below_or zero zero h = inr refl
below_or zero (suc n) h = inl (omega arith)
below_or (suc i) zero h = let e : ⊥ = omega (arith, h) in absurd e
below_or (suc i) (suc n) h = elim (below_or i n (omega (arith, h))) [ inl k ↦ inl (omega (arith, k)) | inr e ↦ inr (ap suc e) ]

module _ (lines : List Line) (joins : List Join) (first old new : List Up) (n : ℕ) (j : Join) (at_j : slice_get joins n ≡ Some j) (u : IsUniting lines joins first old n) where
  next : (union : IsUnion lines new) → SameTrees old new → ((x y : ℕ) → SameRoot old x y → SameRoot new x y) → SameRoot new j.left j.right → ((x y : ℕ) → SameRoot new x y → IsTied first joins x y) → IsUniting lines joins first new (n + 1)
  next union trees kept here sound = record {
    union = union;
    trees = trees_trans first old new u.trees trees;
    kept = λ x y s. kept x y (u.kept x y s);
    done = λ i k low at. elim (below_or i n low) [
      | inl h ↦ kept k.left k.right (u.done i k h at)
      | inr e ↦ subst (λ (x : Join). SameRoot new x.left x.right) (some_is j k (sym at_j ∙ ap (λ w. slice_get joins w) (sym e) ∙ at)) here
    ];
    sound = sound;
  }

  -- one join more is made
  pub uniting_more : IsLinked lines old new j.left j.right → IsUniting lines joins first new (n + 1)
  uniting_more (a, b, root_a, root_b, how) = by how
    where
      by : ((a ≡ b) × (new ≡ old)) ⊎ (IsUnder lines old new b a ⊎ IsUnder lines old new a b) → IsUniting lines joins first new (n + 1)
      by (inl (same, is)) =
          next (subst (IsUnion lines) (sym is) u.union) (subst (SameTrees old) (sym is) (refl, λ i m at. at)) (λ x y s. subst (λ w. SameRoot w x y) (sym is) s)
          (subst (λ w. SameRoot w j.left j.right) (sym is) (b, subst (IsRootOf old j.left) same root_a, root_b)) (λ x y s. u.sound x y (subst (λ w. SameRoot w x y) is s))
      by (inr (inl under)) =
          let own_a = root_stops old root_a in let own_b = root_stops old root_b in
          next (under_union lines old new b a u.union own_a own_b under) (under_trees lines old new b a u.union own_a own_b under) (under_kept lines old new b a u.union own_a own_b under)
          (under_ties lines old new b a u.union own_a own_b under j.left j.right root_a root_b)
          (λ x y s. under_sound lines old new b a u.union own_a own_b under first joins x y j.left j.right s u.sound root_a root_b (joined j n at_j))
      by (inr (inr under)) =
          let own_a = root_stops old root_a in let own_b = root_stops old root_b in
          let both : SameRoot new j.right j.left = under_ties lines old new a b u.union own_b own_a under j.right j.left root_b root_a in
          next (under_union lines old new a b u.union own_b own_a under) (under_trees lines old new a b u.union own_b own_a under) (under_kept lines old new a b u.union own_b own_a under)
          (both.0, both.2, both.1)
          (λ x y s. under_sound lines old new a b u.union own_b own_a under first joins x y j.right j.left s u.sound root_b root_a (turned (joined j n at_j)))

-- the line of a join still equates its trees
pub join_still : {L S : Type 0} (old new : LogValue L S) (first now : List Up) (joins : List Join) (i : ℕ) (j : Join) → Grew old new → SameTrees first now → AreJoins old.lines first joins → slice_get joins i ≡ Some j → Equates2 new.lines now j.line j.left j.right
join_still old new first now joins i j grew trees all at =
    let (a, b, at_a, at_b, has) = equates_grew old new grew first j.line j.left j.right (all i j at) in
    let (c, at_c, tree_c) = trees.1 j.left a.tree (a, at_a, refl) in
    let (d, at_d, tree_d) = trees.1 j.right b.tree (b, at_b, refl) in
    (c, d, at_c, at_d, subst (λ m. HasLine new.lines j.line m d.tree) (sym tree_c) (subst (λ m. HasLine new.lines j.line a.tree m) (sym tree_d) has))

pub join_there : (lines : List Line) (ups : List Up) (i x y : ℕ) → Equates2 lines ups i x y → (x < length ups) × (y < length ups)
join_there lines ups i x y (a, b, at_a, at_b, has) = (within ups x a at_a, within ups y b at_b)

-- no number is looked at yet
pub flat_none : (lines : List Line) (ups : List Up) → IsUnion lines ups → IsFlattened lines ups ups 0
flat_none lines ups union = record {
  union = union;
  trees = (refl, λ i n at. at);
  done = λ i u low at. let e : ⊥ = omega (arith, low) in absurd e;
  rest = λ i high. refl;
}

pub flat_grew : {L S : Type 0} (old new : LogValue L S) (first now : List Up) (n : ℕ) → Grew old new → IsFlattened old.lines first now n → IsFlattened new.lines first now n
flat_grew old new first now n grew f = record {
  union = union_grew old new grew now f.union;
  trees = f.trees;
  done = f.done;
  rest = f.rest;
}

pub lifted_none : (lines : List Line) (ups : List Up) (i : ℕ) (u p : Up) → slice_get ups i ≡ Some u → slice_get ups u.parent ≡ Some p → u.parent ≤ p.parent → IsLifted lines ups ups i
lifted_none lines ups i u p at_u at_p high = (u, p, at_u, at_p, inl (refl, high))

pub lifted_up : {L S : Type 0} (old new : LogValue L S) (ups more : List Up) (i line : ℕ) (u p : Up) → IsUnion old.lines ups → slice_get ups i ≡ Some u → slice_get ups u.parent ≡ Some p → p.parent < u.parent → Chains old new u.line p.line line
    → ((v : Up) × (slice_get ups i ≡ Some v) × (more ≡ slice_set ups i (record { tree = v.tree; parent = p.parent; line = line }))) → IsLifted new.lines ups more i
lifted_up {L} {S} old new ups more i line u p union at_u at_p low chains (v, at_v, is) =
    let (q, at_q, has) = union.up i u at_u in
    let (r, at_r, has') = union.up u.parent p at_p in
    let same : q ≡ p = some_is q p (sym at_q ∙ at_p) in
    let same_v : v ≡ u = some_is v u (sym at_v ∙ at_u) in
    let led : HasLine new.lines line u.tree r.tree = chains u.tree p.tree r.tree (subst (λ (w : Up). HasLine old.lines u.line u.tree w.tree) same has) has' in
    (u, p, at_u, at_p, inr (low, (r, line, at_r, led, is ∙ ap (λ (w : Up). slice_set ups i (record { tree = w.tree; parent = p.parent; line = line })) same_v)))

module _ (lines : List Line) (first old new : List Up) (n : ℕ) (f : IsFlattened lines first old n) where
  -- the parent of the number's parent is its root
  parent_root : (u p : Up) → slice_get old n ≡ Some u → slice_get old u.parent ≡ Some p → (u.parent < n) → IsRootOf first n p.parent
  parent_root u p at_u at_p low =
      let at_first : slice_get first n ≡ Some u = sym (f.rest n (omega arith)) ∙ at_u in
      above first u at_first (omega (arith, low)) (f.done u.parent p low at_p)

  parent_own : (u p : Up) → slice_get old n ≡ Some u → slice_get old u.parent ≡ Some p → u.parent ≡ n → p ≡ u
  parent_own u p at_u at_p own = some_is p u (sym at_p ∙ ap (λ k. slice_get old k) own ∙ at_u)

  at_or_below : (i k : ℕ) → i ≤ k → (i < k) ⊎ (i ≡ k)
  at_or_below zero zero h = inr refl
  at_or_below zero (suc k) h = inl (omega arith)
  at_or_below (suc i) zero h = let e : ⊥ = omega (arith, h) in absurd e
  at_or_below (suc i) (suc k) h = elim (at_or_below i k (omega (arith, h))) [ inl l ↦ inl (omega (arith, l)) | inr e ↦ inr (ap suc e) ]

  still_flat : (u p : Up) → slice_get old n ≡ Some u → slice_get old u.parent ≡ Some p → u.parent ≤ p.parent → IsRootOf first n u.parent
  still_flat u p at_u at_p high = by (at_or_below u.parent n (f.union.older n u at_u))
    where
      by : (u.parent < n) ⊎ (u.parent ≡ n) → IsRootOf first n u.parent
      by (inl low) =
          let under = f.union.older u.parent p at_p in let same : p.parent ≡ u.parent = omega (arith, under, high) in
          subst (IsRootOf first n) same (parent_root u p at_u at_p low)
      by (inr own) = subst (IsRootOf first n) (sym own) (stop u (sym (f.rest n (omega arith)) ∙ at_u) own)

  -- one number more is put right under its root
  pub flat_more : IsLifted lines old new n → IsFlattened lines first new (n + 1)
  flat_more (u, p, at_u, at_p, how) = by how
    where
      by : ((new ≡ old) × (u.parent ≤ p.parent)) ⊎ ((p.parent < u.parent) × ((r : Up) × (line : ℕ) × (slice_get old p.parent ≡ Some r) × HasLine lines line u.tree r.tree × (new ≡ slice_set old n (record { tree = u.tree; parent = p.parent; line = line })))) → IsFlattened lines first new (n + 1)
      by (inl (is, high)) = record {
        union = subst (IsUnion lines) (sym is) f.union;
        trees = subst (SameTrees first) (sym is) f.trees;
        done = λ i v low at. elim (below_or i n low) [
          | inl h ↦ f.done i v h (ap (λ w. slice_get w i) (sym is) ∙ at)
          | inr e ↦ subst (λ k. IsRootOf first k v.parent) (sym e) (subst (λ (x : Up). IsRootOf first n x.parent) (some_is u v (sym at_u ∙ ap (λ k. slice_get old k) (sym e) ∙ ap (λ w. slice_get w i) (sym is) ∙ at)) (still_flat u p at_u at_p high))
        ];
        rest = λ i high'. ap (λ w. slice_get w i) is ∙ f.rest i (omega (arith, high'));
      }
      by (inr (low, (r, line, at_r, has, is))) =
          let v : Up = record { tree = u.tree; parent = p.parent; line = line } in
          let at_n : slice_get new n ≡ Some v = ap (λ w. slice_get w n) is ∙ set_same old n u v at_u in
          let under_n = f.union.older n u at_u in
          let at_other : (i : ℕ) → (n ≡ i → ⊥) → slice_get new i ≡ slice_get old i = λ i other. ap (λ w. slice_get w i) is ∙ set_other old n i v other in
          let strictly : u.parent < n = elim (at_or_below u.parent n under_n) [
            | inl h ↦ h
            | inr own ↦ (let same : p.parent ≡ u.parent = ap (λ (x : Up). x.parent) (parent_own u p at_u at_p own) in let e : ⊥ = omega (arith, same, low) in absurd e)
          ] in
          let tree_still : (i : ℕ) (q : Up) → slice_get old i ≡ Some q → (q' : Up) × (slice_get new i ≡ Some q') × (q'.tree ≡ q.tree) = λ i q at. elim (same_or n i) [
            | inl e ↦ (v, ap (λ k. slice_get new k) (sym e) ∙ at_n, ap (λ (x : Up). x.tree) (some_is u q (sym at_u ∙ ap (λ k. slice_get old k) e ∙ at)))
            | inr other ↦ (q, at_other i other ∙ at, refl)
          ] in
          record {
            union = record {
              older = λ i w at. elim (same_or n i) [
                | inl e ↦ subst (λ (x : Up). x.parent ≤ i) (some_is v w (sym at_n ∙ ap (λ k. slice_get new k) e ∙ at)) (let h : p.parent ≤ i = omega (arith, low, under_n, e) in h)
                | inr other ↦ f.union.older i w (sym (at_other i other) ∙ at)
              ];
              up = λ i w at. elim (same_or n i) [
                | inl e ↦ let (q, at_q, tree) = tree_still p.parent r at_r in
                    subst (λ (x : Up). (q' : Up) × (slice_get new x.parent ≡ Some q') × HasLine lines x.line x.tree q'.tree) (some_is v w (sym at_n ∙ ap (λ k. slice_get new k) e ∙ at)) (q, at_q, subst (HasLine lines line u.tree) (sym tree) has)
                | inr other ↦ let (q, at_q, has') = f.union.up i w (sym (at_other i other) ∙ at) in let (q', at_q', tree) = tree_still w.parent q at_q in (q', at_q', subst (HasLine lines w.line w.tree) (sym tree) has')
              ];
            };
            trees = trees_trans first old new f.trees (ap (λ w. length w) is ∙ length_set old n v, λ i m (q, at, t). let (q', at_q', tree) = tree_still i q at in (q', at_q', tree ∙ t));
            done = λ i w low' at. elim (below_or i n low') [
              | inl h ↦ f.done i w h (sym (at_other i (λ e. let b : ⊥ = omega (arith, e, h) in b)) ∙ at)
              | inr e ↦ subst (λ k. IsRootOf first k w.parent) (sym e) (subst (λ (x : Up). IsRootOf first n x.parent) (some_is v w (sym at_n ∙ ap (λ k. slice_get new k) (sym e) ∙ at)) (parent_root u p at_u at_p strictly))
            ];
            rest = λ i high. at_other i (λ e. let b : ⊥ = omega (arith, e, high) in b) ∙ f.rest i (omega (arith, high));
          }
