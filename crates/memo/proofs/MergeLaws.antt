-- Merging by joins.
use Rattle.std.proofs.Common.{◌≡◌, ℕ, zero, suc, ◌+◌, ◌<◌, ◌≤◌, List, [], ◌∷◌, length, Option, Some, slice_get, slice_set, refl, ap, sym, ◌∙◌, subst, arith, inl, inr}
use Rattle.std.specs.Prelude.{◌⊎◌, ◌↔◌}
use Rattle.derivation.specs.Log.{LogValue}
use Rattle.derivation.specs.declared.reason.Line.{Line}
use Rattle.derivation.specs.declared.terms.Term.{Term}
use Rattle.memo.specs.declared.expr.Expr.{Expr}
use Rattle.memo.specs.declared.expr.Known.{Known}
use Rattle.memo.specs.declared.expr.Join.{Join}
use Rattle.memo.specs.declared.union.Up.{Up}
use Rattle.memo.specs.Forest.{HasLine, IsOneClass, HasHome, IsForest}
use Rattle.memo.specs.Grew.{Grew}
use Rattle.memo.specs.Union.{IsUnion, IsRootOf, stop, SameRoot, IsTied, was, joined, turned, chained, AreJoins, IsUniting, IsFlattened}
use Rattle.memo.specs.Merge.{up_of, ups_of, placed, IsPlaced, AreJoinable, IsMoved, IsMergedBy}
use Rattle.memo.proofs.UnionLaws.{within, got, set_same, set_other, length_set, one_root, root_stops, root_there, above, tied_trans}
use Rattle.memo.proofs.KeepLaws.{forest_merged, forest_grew}
use Rattle.memo.proofs.GrewLaws.{grew_trans}

some_is : {A : Type 0} (a b : A) → Some a ≡ Some b → a ≡ b
some_is a b e = cc

below_or : (i n : ℕ) → i < n + 1 → (i < n) ⊎ (i ≡ n)
below_or zero zero h = inr refl
below_or zero (suc n) h = inl (omega arith)
below_or (suc i) zero h = let e : ⊥ = omega (arith, h) in absurd e
below_or (suc i) (suc n) h = elim (below_or i n (omega (arith, h))) [ inl k ↦ inl (omega (arith, k)) | inr e ↦ inr (ap suc e) ]

module _ {L : Type 0} where
  pub up_at : (es : List (Expr L)) (i : ℕ) (e : Expr L) → slice_get es i ≡ Some e → slice_get (ups_of es) i ≡ Some (up_of e)
  up_at [] i e h = cc
  up_at (x ∷ es) zero e h = ap (λ (y : Expr L). Some (up_of y)) (some_is x e h)
  up_at (x ∷ es) (suc i) e h = up_at es i e h

  pub expr_at_up : (es : List (Expr L)) (i : ℕ) (u : Up) → slice_get (ups_of es) i ≡ Some u → (e : Expr L) × (slice_get es i ≡ Some e) × (u ≡ up_of e)
  expr_at_up [] i u h = cc
  expr_at_up (x ∷ es) zero u h = (x, refl, sym (some_is (up_of x) u h))
  expr_at_up (x ∷ es) (suc i) u h = expr_at_up es i u h

  pub ups_long : (es : List (Expr L)) → length (ups_of es) ≡ length es
  ups_long [] = refl
  ups_long (x ∷ es) = ap suc (ups_long es)

  -- a forest's classes are numbers under older ones
  pub forest_union : (terms : List (Term L)) (lines : List Line) (exprs : List (Expr L)) (known : List (Option Known)) → IsForest terms lines exprs known → IsUnion lines (ups_of exprs)
  forest_union terms lines exprs known f = record {
    older = λ i u at. let (e, at_e, is) = expr_at_up exprs i u at in subst (λ (v : Up). v.parent ≤ i) (sym is) (f.older i e at_e);
    up = λ i u at.
        let (e, at_e, is) = expr_at_up exprs i u at in
        let (r, at_r, flat, has) = f.home i e at_e in
        (up_of r, ap (λ (v : Up). slice_get (ups_of exprs) v.parent) is ∙ up_at exprs e.class r at_r, subst (λ (v : Up). HasLine lines v.line v.tree r.tree) (sym is) has);
  }

  -- the class of an expression is its root
  pub class_root : (terms : List (Term L)) (lines : List Line) (exprs : List (Expr L)) (known : List (Option Known)) → IsForest terms lines exprs known → (i : ℕ) (e : Expr L) → slice_get exprs i ≡ Some e → IsRootOf (ups_of exprs) i e.class
  class_root terms lines exprs known f i e at =
      let (r, at_r, own, has) = f.home i e at in
      above (ups_of exprs) (up_of e) (up_at exprs i e at) (f.older i e at) (stop (up_of r) (up_at exprs e.class r at_r) own)

  pub joins_union : (lines : List Line) (exprs : List (Expr L)) (joins : List Join) → AreJoinable lines exprs joins → AreJoins lines (ups_of exprs) joins
  joins_union lines exprs joins all i j at = let (a, b, at_a, at_b, has) = all i j at in (up_of a, up_of b, up_at exprs j.left a at_a, up_at exprs j.right b at_b, has)

  pub placed_none : (ups : List Up) (exprs : List (Expr L)) → IsPlaced ups exprs exprs 0
  placed_none ups exprs = record { long = refl; done = λ i e u low. let n : ⊥ = omega (arith, low) in absurd n; rest = λ i high. refl }

  -- one expression more is placed
  pub placed_more : (ups : List Up) (first old new : List (Expr L)) (n : ℕ) (u : Up) → slice_get ups n ≡ Some u → IsPlaced ups first old n → ((e : Expr L) × (slice_get old n ≡ Some e) × (new ≡ slice_set old n (placed e u))) → IsPlaced ups first new (n + 1)
  placed_more ups first old new n u at_u p (e, at_e, is) =
      let at_n : slice_get new n ≡ Some (placed e u) = ap (λ w. slice_get w n) is ∙ set_same old n e (placed e u) at_e in
      let at_other : (i : ℕ) → (n ≡ i → ⊥) → slice_get new i ≡ slice_get old i = λ i other. ap (λ w. slice_get w i) is ∙ set_other old n i (placed e u) other in record {
        long = ap (λ w. length w) is ∙ length_set old n (placed e u) ∙ p.long;
        done = λ i x v low at_x at_v. elim (below_or i n low) [
          | inl h ↦ at_other i (λ s. let b : ⊥ = omega (arith, s, h) in b) ∙ p.done i x v h at_x at_v
          | inr s ↦
              let same_e : e ≡ x = some_is e x (sym at_e ∙ p.rest n (omega arith) ∙ ap (λ k. slice_get first k) (sym s) ∙ at_x) in
              let same_u : u ≡ v = some_is u v (sym at_u ∙ ap (λ k. slice_get ups k) (sym s) ∙ at_v) in
              ap (λ k. slice_get new k) s ∙ at_n ∙ ap (λ (y : Expr L). Some (placed y u)) same_e ∙ ap (λ (w : Up). Some (placed x w)) same_u
        ];
        rest = λ i high. at_other i (λ s. let b : ⊥ = omega (arith, s, high) in b) ∙ p.rest i (omega (arith, high));
      }

-- what joins tie together has one root where all of them are made
module _ (lines : List Line) (joins : List Join) (first now : List Up) (u : IsUniting lines joins first now (length joins)) where
  root_turned : (x y : ℕ) → SameRoot now x y → SameRoot now y x
  root_turned x y (r, p, q) = (r, q, p)

  pub tied_root : {x y : ℕ} → IsTied first joins x y → SameRoot now x y
  tied_root (was {x} {y} s) = u.kept x y s
  tied_root (joined j i at) = u.done i j (within joins i j at) at
  tied_root (turned {x} {y} h) = root_turned x y (tied_root h)
  tied_root (chained {x} {y} {z} h k) = tied_trans now x y z (tied_root h) (tied_root k)

module _ {L S : Type 0} (log : LogValue L S) (mid_lines : List Line) (old new : List (Expr L)) (known : List (Option Known)) (joins : List Join) (one two : List Up)
    (forest : IsForest log.terms log.lines old known) (united : IsUniting mid_lines joins (ups_of old) one (length joins)) (flat : IsFlattened log.lines one two (length one)) (placing : IsPlaced two old new (length old)) where
  up_there : (i : ℕ) (e : Expr L) → slice_get old i ≡ Some e → (u : Up) × (slice_get two i ≡ Some u) × (u.tree ≡ e.tree)
  up_there i e at =
      let (v, at_v, tree) = united.trees.1 i e.tree (up_of e, up_at old i e at, refl) in
      flat.trees.1 i e.tree (v, at_v, tree)

  pub stays : (i : ℕ) (e : Expr L) → slice_get old i ≡ Some e → (e' : Expr L) × (slice_get new i ≡ Some e') × IsMoved e e'
  stays i e at = let (u, at_u, tree) = up_there i e at in (placed e u, placing.done i e u (within old i e at) at at_u, (refl, refl, refl, refl, refl))

  -- an expression now, as it was
  before : (i : ℕ) (e' : Expr L) → slice_get new i ≡ Some e' → (e : Expr L) × (u : Up) × (slice_get old i ≡ Some e) × (slice_get two i ≡ Some u) × (u.tree ≡ e.tree) × (e' ≡ placed e u)
  before i e' at' =
      let low : i < length old = subst (λ n. i < n) placing.long (within new i e' at') in
      let (e, at) = got old i low in
      let (u, at_u, tree) = up_there i e at in
      (e, u, at, at_u, tree, some_is e' (placed e u) (sym at' ∙ placing.done i e u low at at_u))

  rooted : (i : ℕ) (u : Up) → slice_get two i ≡ Some u → IsRootOf one i u.parent
  rooted i u at = flat.done i u (subst (λ n. i < n) flat.trees.0 (within two i u at)) at

  same_class : (x y : ℕ) → IsOneClass new x y → SameRoot one x y
  same_class x y (a, b, at_a, at_b, same) =
      let (e, u, at_e, at_u, tree_e, is_a) = before x a at_a in
      let (f, v, at_f, at_v, tree_f, is_b) = before y b at_b in
      let classes : v.parent ≡ u.parent = ap (λ (z : Expr L). z.class) (sym is_b) ∙ sym same ∙ ap (λ (z : Expr L). z.class) is_a in
      (u.parent, rooted x u at_u, subst (IsRootOf one y) classes (rooted y v at_v))

  class_same : (x y : ℕ) → SameRoot one x y → IsOneClass new x y
  class_same x y (r, p, q) =
      let (e, at_e) = root_there_old x r p in
      let (f, at_f) = root_there_old y r q in
      let (u, at_u, tree_e) = up_there x e at_e in
      let (v, at_v, tree_f) = up_there y f at_f in
      (placed e u, placed f v, placing.done x e u (within old x e at_e) at_e at_u, placing.done y f v (within old y f at_f) at_f at_v, one_root one (rooted x u at_u) p ∙ one_root one q (rooted y v at_v))
    where
      there_old : (i : ℕ) (u : Up) → slice_get one i ≡ Some u → (e : Expr L) × (slice_get old i ≡ Some e)
      there_old i u at = got old i (subst (λ n. i < n) (united.trees.0 ∙ ups_long old) (within one i u at))

      root_there_old : (i r : ℕ) → IsRootOf one i r → (e : Expr L) × (slice_get old i ≡ Some e)
      root_there_old i r p = let (u, at) = root_there one p in there_old i u at

  pub merged : (x y : ℕ) → IsOneClass new x y ↔ IsTied (ups_of old) joins x y
  merged x y = (λ one'. united.sound x y (same_class x y one'), λ t. class_same x y (tied_root mid_lines joins (ups_of old) one united t))

  older : (i : ℕ) (e : Expr L) → slice_get new i ≡ Some e → e.class ≤ i
  older i e' at' = let (e, u, at, at_u, tree, is) = before i e' at' in subst (λ (z : Expr L). z.class ≤ i) (sym is) (flat.union.older i u at_u)

  home : (i : ℕ) (e : Expr L) → slice_get new i ≡ Some e → HasHome log.lines new e
  home i e' at' =
      let (e, u, at, at_u, tree, is) = before i e' at' in
      let (p, at_p, has) = flat.union.up i u at_u in
      let (r, at_r) = got old u.parent (subst (λ n. u.parent < n) (flat.trees.0 ∙ united.trees.0 ∙ ups_long old) (within two u.parent p at_p)) in
      let (v, at_v, tree_r) = up_there u.parent r at_r in
      let same : p ≡ v = some_is p v (sym at_p ∙ at_v) in
      let (w, at_w, own) = root_stops one (rooted i u at_u) in
      let flat_r : v.parent ≡ u.parent = one_root one (rooted u.parent v at_v) (stop w at_w own) in
      let there : slice_get new u.parent ≡ Some (placed r v) = placing.done u.parent r v (within old u.parent r at_r) at_r at_v in
      let line : HasLine log.lines u.line e.tree r.tree = subst (λ n. HasLine log.lines u.line n r.tree) tree (subst (λ n. HasLine log.lines u.line u.tree n) (ap (λ (z : Up). z.tree) same ∙ tree_r) has) in
      subst (HasHome log.lines new) (sym is) (placed r v, there, flat_r, line)

  pub merged_forest : IsForest log.terms log.lines new known
  merged_forest =
      forest_merged log.terms log.lines old new known
      (λ i e' at'. let (e, u, at, at_u, tree, is) = before i e' at' in (e, at, (ap (λ (z : Expr L). z.label) is, ap (λ (z : Expr L). z.inputs) is, ap (λ (z : Expr L). z.line) is, ap (λ (z : Expr L). z.tree) is)))
      (λ i e at. let (e', at', (label, inputs, line, tree, live)) = stays i e at in (e', at', (label, inputs, line, tree)))
      older home (λ x y one'. class_same x y (united.kept x y (was_root x y one'))) forest
    where
      was_root : (x y : ℕ) → IsOneClass old x y → SameRoot (ups_of old) x y
      was_root x y (a, b, at_a, at_b, same) =
          (a.class, class_root log.terms log.lines old known forest x a at_a, subst (IsRootOf (ups_of old) y) (sym same) (class_root log.terms log.lines old known forest y b at_b))

  pub merged_by : IsMergedBy joins old new
  merged_by = record { long = placing.long; stays = stays; merged = merged }

-- merging over numbers that were made of the expressions
module _ {L S : Type 0} (first_log mid log : LogValue L S) (old new : List (Expr L)) (known : List (Option Known)) (joins : List Join) (first one two : List Up) (is : first ≡ ups_of old)
    (forest : IsForest first_log.terms first_log.lines old known) (g : Grew first_log mid) (h : Grew mid log) (united : IsUniting mid.lines joins first one (length joins)) (flat : IsFlattened log.lines one two (length one)) where
  over_old : IsUniting mid.lines joins (ups_of old) one (length joins)
  over_old = subst (λ w. IsUniting mid.lines joins w one (length joins)) is united

  forest_now : IsForest log.terms log.lines old known
  forest_now = forest_grew first_log log old known (grew_trans first_log mid log g h) forest

  pub two_long : length two ≡ length old
  two_long = flat.trees.0 ∙ over_old.trees.0 ∙ ups_long old

  pub merge_forest : IsPlaced two old new (length old) → IsForest log.terms log.lines new known
  merge_forest placing = merged_forest log mid.lines old new known joins one two forest_now over_old flat placing

  pub merge_by : IsPlaced two old new (length old) → IsMergedBy joins old new
  merge_by placing = merged_by log mid.lines old new known joins one two forest_now over_old flat placing
