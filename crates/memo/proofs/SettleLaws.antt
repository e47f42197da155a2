-- Each turn of a settling merges what has to be, and no more.
use Rattle.std.proofs.Common.{◌≡◌, ℕ, zero, suc, ◌<◌, List, [], ◌∷◌, ◌++◌, length, take, drop, Option, Some, slice_get, refl, ap, sym, ◌∙◌, subst, arith}
use Rattle.std.specs.Prelude.{All}
use Rattle.std.specs.List.{AllZip}
use Rattle.derivation.specs.declared.reason.Line.{Line}
use Rattle.derivation.specs.declared.terms.Term.{Term}
use Rattle.memo.specs.declared.expr.Expr.{Expr}
use Rattle.memo.specs.declared.expr.Known.{Known}
use Rattle.memo.specs.declared.expr.Join.{Join}
use Rattle.memo.specs.Forest.{HasLine, IsOneClass, IsForest}
use Rattle.memo.specs.Kept.{IsRoot, Indexes, AreApart, IsMemo}
use Rattle.memo.specs.Memos as memos
use Rattle.memo.specs.Memos.{MemoValue, IsMerged, AreMerged, IsSettled, Settles, alike, turned, chained, none, more}
use Rattle.memo.specs.Merge.{ups_of, IsMoved, IsMergedBy}
use Rattle.memo.specs.Rebuild.{AreAlikeOver, IsRenamed, IsPass}
use Rattle.memo.specs.Settle.{IsWhole, IsTurning, IsMerging}
use Rattle.memo.specs.Union as union
use Rattle.memo.specs.Union.{IsRootOf, SameRoot, IsTied}
use Rattle.memo.proofs.UnionLaws.{within, got, one_root}
use Rattle.memo.proofs.MergeLaws.{class_root, expr_at_up}
use Rattle.memo.proofs.LeastLaws.{least, class_sym, class_trans, classes_sym, classes_trans}
use Rattle.memo.proofs.KeepLaws.{zip_map}
use Rattle.memo.proofs.RebuildLaws.{class_tie, own_alike}

some_is : {A : Type 0} (a b : A) → Some a ≡ Some b → a ≡ b
some_is a b e = cc

pub all_map : (P Q : ℕ → Type 0) → ((a : ℕ) → P a → Q a) → (xs : List ℕ) → All P xs → All Q xs
all_map P Q w [] all k d low = let e : ⊥ = omega (arith, low) in absurd e
all_map P Q w (x ∷ xs) all zero d low = w x (all zero d low)
all_map P Q w (x ∷ xs) all (suc k) d low = all_map P Q w xs (λ n b h. all (suc n) b (omega (arith, h))) k d (omega (arith, low))

-- roots of the same classes are the same
module _ {L : Type 0} (exprs : List (Expr L)) where
  pub same_roots : (xs ys : List ℕ) → All (IsRoot exprs) xs → All (IsRoot exprs) ys → AllZip (IsOneClass exprs) xs ys → xs ≡ ys
  same_roots [] [] h k all = refl
  same_roots [] (y ∷ ys) h k all = absurd all
  same_roots (x ∷ xs) [] h k all = absurd all
  same_roots (x ∷ xs) (y ∷ ys) hs ks ((a', b', at_a', at_b', same), all) =
      let (a, at_a, own_a) = hs zero x (omega arith) in
      let (b, at_b, own_b) = ks zero y (omega arith) in
      let same_a : a ≡ a' = some_is a a' (sym at_a ∙ at_a') in
      let same_b : b ≡ b' = some_is b b' (sym at_b ∙ at_b') in
      let here : x ≡ y = sym own_a ∙ ap (λ (e : Expr L). e.class) same_a ∙ same ∙ ap (λ (e : Expr L). e.class) (sym same_b) ∙ own_b in
      let rest : xs ≡ ys = same_roots xs ys (λ n d h. hs (suc n) d (omega (arith, h))) (λ n d h. ks (suc n) d (omega (arith, h))) all in
      (λ i. here i ∷ rest i)

-- what ties in a forest by a relation that the classes and the joins keep to is in the relation
module _ {L : Type 0} (terms : List (Term L)) (lines : List Line) (exprs : List (Expr L)) (known : List (Option Known)) (forest : IsForest terms lines exprs known) where
  root_class : (i r : ℕ) → IsRootOf (ups_of exprs) i r → (e : Expr L) × (slice_get exprs i ≡ Some e) × (e.class ≡ r)
  root_class i r p =
      let (e, at) = there p in
      (e, at, one_root (ups_of exprs) (class_root terms lines exprs known forest i e at) p)
    where
      there : {i r : ℕ} → IsRootOf (ups_of exprs) i r → (e : Expr L) × (slice_get exprs i ≡ Some e)
      there {i} (union.stop u at is) = let (e, at_e, h) = expr_at_up exprs i u at in (e, at_e)
      there {i} (union.up u at low rest) = let (e, at_e, h) = expr_at_up exprs i u at in (e, at_e)

  pub same_class : (x y : ℕ) → SameRoot (ups_of exprs) x y → IsOneClass exprs x y
  same_class x y (r, p, q) =
      let (a, at_a, is_a) = root_class x r p in
      let (b, at_b, is_b) = root_class y r q in
      (a, b, at_a, at_b, is_a ∙ sym is_b)

  pub tied_in : (R : ℕ → ℕ → Type 0) (joins : List Join) → ((x y : ℕ) → IsOneClass exprs x y → R x y) → ((i : ℕ) (j : Join) → slice_get joins i ≡ Some j → R j.left j.right)
      → ((x y : ℕ) → R x y → R y x) → ((x y z : ℕ) → R x y → R y z → R x z) → {x y : ℕ} → IsTied (ups_of exprs) joins x y → R x y
  tied_in R joins one due flip trans (union.was {x} {y} s) = one x y (same_class x y s)
  tied_in R joins one due flip trans (union.joined j i at) = due i j at
  tied_in R joins one due flip trans (union.turned {x} {y} h) = flip x y (tied_in R joins one due flip trans h)
  tied_in R joins one due flip trans (union.chained {x} {y} {z} h k) = trans x y z (tied_in R joins one due flip trans h) (tied_in R joins one due flip trans k)

  pub untied : (x y : ℕ) → IsTied (ups_of exprs) [] x y → IsOneClass exprs x y
  untied x y h = tied_in (IsOneClass exprs) [] (λ x y h. h) (λ i j at. cc) (class_sym exprs) (class_trans exprs) h

-- one turn
module _ {L : Type 0} (terms terms' : List (Term L)) (lines lines' : List Line) (known : List (Option Known)) (old mid new : List (Expr L)) (entries entries' : List (Term L × ℕ)) (joins joins' : List Join)
    (t : IsTurning terms lines old known entries joins) (m : IsMergedBy joins old mid) (f_mid : IsForest terms' lines' mid known) (f_new : IsForest terms' lines' new known) (p : IsPass lines' mid new entries' joins' (length mid)) where
  forth : (i : ℕ) (x : Expr L) → slice_get mid i ≡ Some x → (z : Expr L) × (slice_get new i ≡ Some z) × IsRenamed mid x z
  forth i x at = p.stays i x at

  back : (i : ℕ) (z : Expr L) → slice_get new i ≡ Some z → (x : Expr L) × (slice_get mid i ≡ Some x) × IsRenamed mid x z
  back i z at =
      let (x, at_x) = got mid i (subst (λ k. i < k) p.long (within new i z at)) in
      let (z', at', r) = p.stays i x at_x in
      (x, at_x, subst (IsRenamed mid x) (some_is z' z (sym at' ∙ at)) r)

  one_new : (x y : ℕ) → IsOneClass mid x y → IsOneClass new x y
  one_new x y (a, b, at_a, at_b, same) =
      let (a', at_a', (al, line, tree, class_a, home, live)) = forth x a at_a in
      let (b', at_b', (al', line', tree', class_b, home', live')) = forth y b at_b in
      (a', b', at_a', at_b', class_a ∙ same ∙ sym class_b)

  one_mid : (x y : ℕ) → IsOneClass new x y → IsOneClass mid x y
  one_mid x y (a, b, at_a, at_b, same) =
      let (a', at_a', (al, line, tree, class_a, home, live)) = back x a at_a in
      let (b', at_b', (al', line', tree', class_b, home', live')) = back y b at_b in
      (a', b', at_a', at_b', sym class_a ∙ same ∙ class_b)

  ones_new : (xs ys : List ℕ) → AllZip (IsOneClass mid) xs ys → AllZip (IsOneClass new) xs ys
  ones_new = zip_map (IsOneClass mid) (IsOneClass new) one_new

  one_merged : (x y : ℕ) → IsOneClass old x y → IsOneClass mid x y
  one_merged x y h = (m.merged x y).1 (class_tie terms lines old known t.forest joins x y h)

  ones_merged : (xs ys : List ℕ) → AllZip (IsOneClass old) xs ys → AllZip (IsOneClass mid) xs ys
  ones_merged = zip_map (IsOneClass old) (IsOneClass mid) one_merged

  tie_new : (x y : ℕ) → IsTied (ups_of mid) joins' x y → IsTied (ups_of new) joins' x y
  tie_new x y h = tied_in terms' lines' mid known f_mid (IsTied (ups_of new) joins') joins' (λ x y h. class_tie terms' lines' new known f_new joins' x y (one_new x y h)) (λ i j at. union.joined j i at) (λ x y h. union.turned h) (λ x y z h k. union.chained h k) h

  -- what was tied is tied
  tied_on : (x y : ℕ) → IsTied (ups_of old) joins x y → IsTied (ups_of new) joins' x y
  tied_on x y h = class_tie terms' lines' new known f_new joins' x y (one_new x y ((m.merged x y).1 h))

  was_old : (i : ℕ) (x : Expr L) → slice_get mid i ≡ Some x → (e : Expr L) × (slice_get old i ≡ Some e) × IsMoved e x
  was_old i x at =
      let (e, at_e) = got old i (subst (λ k. i < k) m.long (within mid i x at)) in
      let (x', at', r) = m.stays i e at_e in
      (e, at_e, subst (IsMoved e) (some_is x' x (sym at' ∙ at)) r)

  whole : IsWhole new joins'
  whole i z at_z =
      let (x, at_x, (al_z, line_z, tree_z, class_z, home_z, live_z)) = back i z at_z in
      let (e, at_e, (label_x, inputs_x, line_x, tree_x, live_x)) = was_old i x at_x in
      let (j, f, at_f, live_f, al_f, tie) = t.whole i e at_e in
      let (f', at_f', (label_f, inputs_f, line_f, tree_f, live_f')) = m.stays j f at_f in
      let (k, low, h, at_h, live_h, al_h, tie_h) = p.covered j f' (within mid j f' at_f') at_f' (live_f' ∙ live_f) in
      let up : AllZip (IsOneClass mid) f.inputs e.inputs = ones_merged f.inputs e.inputs al_f.1 in
      let up_x : AllZip (IsOneClass mid) f'.inputs x.inputs = subst (λ ns. AllZip (IsOneClass mid) ns x.inputs) (sym inputs_f) (subst (λ ns. AllZip (IsOneClass mid) f.inputs ns) (sym inputs_x) up) in
      let up_z : AllZip (IsOneClass mid) f'.inputs z.inputs = classes_trans mid f'.inputs x.inputs z.inputs up_x (classes_sym mid z.inputs x.inputs al_z.1) in (
        k,
        h,
        at_h,
        live_h,
        (al_h.0 ∙ label_f ∙ al_f.0 ∙ sym label_x ∙ sym al_z.0, ones_new h.inputs z.inputs (classes_trans mid h.inputs f'.inputs z.inputs al_h.1 up_z)),
        union.chained (tie_new k j tie_h) (tied_on j i tie),
      )

  pub turning_next : IsTurning terms' lines' new known entries' joins'
  turning_next = record {
    forest = f_new;
    indexed = subst (Indexes entries' new) (sym p.long) p.indexed;
    apart = subst (AreApart new) (sym p.long) p.apart;
    canonical = λ i e at live.
        all_map (IsRoot mid) (IsRoot new) (λ c (x, at_x, own). let (z, at_z, (al, line, tree, class, home, lv)) = forth c x at_x in (z, at_z, class ∙ own)) e.inputs
        (p.roots i e (subst (λ k. i < k) p.long (within new i e at)) at live);
    whole = whole;
    joinable = λ n j at.
        let (a, b, at_a, at_b, has) = p.joinable n j at in
        let (a', at_a', (al, line, tree_a, class, home, live)) = forth j.left a at_a in
        let (b', at_b', (al', line', tree_b, class', home', live')) = forth j.right b at_b in
        (a', b', at_a', at_b', subst (λ k. HasLine lines' j.line k b'.tree) (sym tree_a) (subst (λ k. HasLine lines' j.line a.tree k) (sym tree_b) has));
  }

  module _ {S : Type 0} (memo : MemoValue L S) (g : IsMerging memo old joins) where
    tied_sound : (x y : ℕ) → IsTied (ups_of old) joins x y → IsMerged memo x y
    tied_sound x y h = tied_in terms lines old known t.forest (IsMerged memo) joins g.sound g.due (λ x y h. turned h) (λ x y z h k. chained h k) h

    mid_sound : (x y : ℕ) → IsOneClass mid x y → IsMerged memo x y
    mid_sound x y h = tied_sound x y ((m.merged x y).0 h)

    merged_all : (xs ys : List ℕ) → AllZip (IsMerged memo) xs ys → AreMerged memo xs ys
    merged_all [] [] all = none
    merged_all [] (y ∷ ys) all = absurd all
    merged_all (x ∷ xs) [] all = absurd all
    merged_all (x ∷ xs) (y ∷ ys) all = more all.0 (merged_all xs ys all.1)

    -- an expression of the turn, as it was at first
    origin : (i : ℕ) (x : Expr L) → slice_get mid i ≡ Some x → (o : Expr L) × (slice_get memo.exprs i ≡ Some o) × (x.label ≡ o.label) × AllZip (IsOneClass mid) x.inputs o.inputs
    origin i x at =
        let (e, at_e, (label, inputs, line, tree, live)) = was_old i x at in
        let (o, at_o) = got memo.exprs i (subst (λ k. i < k) g.long (within old i e at_e)) in
        let (e', at_e', al) = g.stays i o at_o in
        let same : e' ≡ e = some_is e' e (sym at_e' ∙ at_e) in
        let al_e : AreAlikeOver old e o = subst (λ (w : Expr L). AreAlikeOver old w o) same al in
        (o, at_o, label ∙ al_e.0, subst (λ ns. AllZip (IsOneClass mid) ns o.inputs) (sym inputs) (ones_merged e.inputs o.inputs al_e.1))

    due_next : (i : ℕ) (j : Join) → slice_get joins' i ≡ Some j → IsMerged memo j.left j.right
    due_next i j at =
        let (a, b, at_a, at_b, has) = p.joinable i j at in
        let al = p.alike i j a b at at_a at_b in
        let (o, at_o, label_o, ins_o) = origin j.left a at_a in
        let (q, at_q, label_q, ins_q) = origin j.right b at_b in
        let all : AllZip (IsOneClass mid) o.inputs q.inputs = classes_trans mid o.inputs a.inputs q.inputs (classes_sym mid a.inputs o.inputs ins_o) (classes_trans mid a.inputs b.inputs q.inputs al.1 ins_q) in
        alike o q at_o at_q (sym label_o ∙ al.0 ∙ label_q) (merged_all o.inputs q.inputs (zip_map (IsOneClass mid) (IsMerged memo) mid_sound o.inputs q.inputs all))

    pub merging_next : IsMerging memo new joins'
    merging_next = record {
      long = p.long ∙ m.long ∙ g.long;
      stays = λ i o at_o.
          let (e, at_e, al) = g.stays i o at_o in
          let (x, at_x, (label, inputs, line, tree, live)) = m.stays i e at_e in
          let (z, at_z, (al_z, line', tree', class, home, live')) = forth i x at_x in
          let ins : AllZip (IsOneClass mid) x.inputs o.inputs = subst (λ ns. AllZip (IsOneClass mid) ns o.inputs) (sym inputs) (ones_merged e.inputs o.inputs al.1) in
          (z, at_z, (al_z.0 ∙ label ∙ al.0, ones_new z.inputs o.inputs (classes_trans mid z.inputs x.inputs o.inputs al_z.1 ins)));
      merges = λ x y h. one_new x y (one_merged x y (g.merges x y h));
      given = λ i j at. tied_on j.left j.right (g.given i j at);
      sound = λ x y h. mid_sound x y (one_mid x y h);
      due = due_next;
    }

-- a settling begins
module _ {L : Type 0} (terms : List (Term L)) (lines : List Line) (exprs : List (Expr L)) (known : List (Option Known)) (entries : List (Term L × ℕ)) where
  pub turning_first : (joins : List Join) → IsMemo terms lines exprs known entries joins → IsTurning terms lines exprs known entries joins
  turning_first joins m = record {
    forest = m.forest;
    indexed = m.indexed;
    apart = m.apart;
    canonical = m.canonical;
    whole = λ i e at. let (j, f, at_f, live, label, inputs, one) = m.complete i e at in (j, f, at_f, live, (label, inputs), class_tie terms lines exprs known m.forest joins j i one);
    joinable = m.joinable;
  }

  -- and ends, where no joins are left
  pub turning_last : IsTurning terms lines exprs known entries [] → IsMemo terms lines exprs known entries []
  turning_last t = record {
    forest = t.forest;
    indexed = t.indexed;
    apart = t.apart;
    canonical = t.canonical;
    complete = λ i e at. let (j, f, at_f, live, (label, inputs), tie) = t.whole i e at in (j, f, at_f, live, label, inputs, untied terms lines exprs known t.forest j i tie);
    joinable = t.joinable;
  }

pub merging_first : {L S : Type 0} (memo : MemoValue L S) (terms : List (Term L)) (lines : List Line) (known : List (Option Known)) → IsForest terms lines memo.exprs known → IsMerging memo memo.exprs memo.joins
merging_first memo terms lines known f = record {
  long = refl;
  stays = λ i e at. (e, at, own_alike terms lines memo.exprs known f i e at);
  merges = λ x y h. h;
  given = λ i j at. union.joined j i at;
  sound = λ x y h. memos.was h;
  due = λ i j at. memos.joined j i at;
}

module _ {L S : Type 0} (old new : MemoValue L S) (terms : List (Term L)) (lines : List Line) (known : List (Option Known)) (entries : List (Term L × ℕ)) (t : IsTurning terms lines new.exprs known entries []) (g : IsMerging old new.exprs []) where
  pub settled : IsSettled new
  settled i j a b (at_a, live_a) (at_b, live_b) label zip =
      t.apart i j a b (within new.exprs i a at_a) (within new.exprs j b at_b) at_a at_b live_a live_b label (same_roots new.exprs a.inputs b.inputs (t.canonical i a at_a live_a) (t.canonical j b at_b live_b) zip)

  pub settles : new.joins ≡ [] → Settles old new
  settles none_left = (
    settled,
    none_left,
    λ x y. (
      g.sound x y,
      λ h. least old new (λ i e at. let (e', at', (label, inputs)) = g.stays i e at in (e', at', label, inputs)) g.merges
          (λ i j at. untied terms lines new.exprs known t.forest j.left j.right (g.given i j at))
          (λ i e at. let (j, f, at_f, live, (label, inputs), tie) = t.whole i e at in (j, f, at_f, live, label, inputs, untied terms lines new.exprs known t.forest j i tie)) settled h,
    ),
  )

-- a whole settling
module _ {L S : Type 0} (old : MemoValue L S) (known : List (Option Known)) (entries entries' : List (Term L × ℕ)) (kept : IsMemo old.log.terms old.log.lines old.exprs known entries old.joins) (terms' : List (Term L)) (lines' : List Line) (exprs' : List (Expr L))
    (turning : IsTurning terms' lines' exprs' known entries' []) (merging : (memo : MemoValue L S) → IsMerging memo old.exprs old.joins → IsMerging memo exprs' []) where
  merged_all_on : IsMerging old exprs' []
  merged_all_on = merging old (merging_first old old.log.terms old.log.lines known kept.forest)

  pub settled_long : length exprs' ≡ length old.exprs
  settled_long = merged_all_on.long

  pub settled_memo : IsMemo terms' lines' exprs' known entries' []
  settled_memo = turning_last terms' lines' exprs' known entries' turning

  pub settled_settles : (new : MemoValue L S) → new.exprs ≡ exprs' → new.joins ≡ [] → Settles old new
  settled_settles new is none_left =
      settles old new terms' lines' known entries' (subst (λ es. IsTurning terms' lines' es known entries' []) (sym is) turning) (subst (λ es. IsMerging old es []) (sym is) merged_all_on) none_left

-- what a slice of a vector leaves in it
pub written : {A : Type 0} (n : ℕ) (xs items : List A) → length xs ≡ length items → n ≡ length items → take n (xs ++ drop (length xs) items) ≡ xs
written {A} n xs items long is = ap (λ k. take k (xs ++ drop (length xs) items)) (is ∙ sym long) ∙ front xs (drop (length xs) items)
  where
    front : (ys zs : List A) → take (length ys) (ys ++ zs) ≡ ys
    front [] zs = refl
    front (y ∷ ys) zs = ap (λ r. y ∷ r) (front ys zs)
