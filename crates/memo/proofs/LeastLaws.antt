-- Where no two expressions are alike, the classes are as merged as they must be.
use Rattle.std.proofs.Common.{◌≡◌, ℕ, List, [], ◌∷◌, Some, true, slice_get, ap, sym, ◌∙◌, subst}
use Rattle.std.specs.List.{AllZip}
use Rattle.memo.specs.declared.expr.Expr.{Expr}
use Rattle.memo.specs.declared.expr.Join.{Join}
use Rattle.memo.specs.Forest.{IsOneClass}
use Rattle.memo.specs.Memos.{MemoValue, IsMerged, AreMerged, IsSettled, was, joined, alike, turned, chained, none, more}

some_is : {A : Type 0} (a b : A) → Some a ≡ Some b → a ≡ b
some_is a b e = cc

module _ {L : Type 0} (exprs : List (Expr L)) where
  pub class_sym : (x y : ℕ) → IsOneClass exprs x y → IsOneClass exprs y x
  class_sym x y (a, b, at_x, at_y, same) = (b, a, at_y, at_x, sym same)

  pub class_trans : (x y z : ℕ) → IsOneClass exprs x y → IsOneClass exprs y z → IsOneClass exprs x z
  class_trans x y z (a, b, at_x, at_y, e) (b', c, at_y', at_z, e') = (a, c, at_x, at_z, e ∙ ap (λ (w : Expr L). w.class) (some_is b b' (sym at_y ∙ at_y')) ∙ e')

  pub classes_sym : (xs ys : List ℕ) → AllZip (IsOneClass exprs) xs ys → AllZip (IsOneClass exprs) ys xs
  classes_sym [] [] h = tt
  classes_sym [] (y ∷ ys) h = absurd h
  classes_sym (x ∷ xs) [] h = absurd h
  classes_sym (x ∷ xs) (y ∷ ys) h = (class_sym x y h.0, classes_sym xs ys h.1)

  pub classes_trans : (xs ys zs : List ℕ) → AllZip (IsOneClass exprs) xs ys → AllZip (IsOneClass exprs) ys zs → AllZip (IsOneClass exprs) xs zs
  classes_trans [] [] [] h k = tt
  classes_trans [] [] (z ∷ zs) h k = absurd k
  classes_trans [] (y ∷ ys) zs h k = absurd h
  classes_trans (x ∷ xs) [] zs h k = absurd h
  classes_trans (x ∷ xs) (y ∷ ys) [] h k = absurd k
  classes_trans (x ∷ xs) (y ∷ ys) (z ∷ zs) h k = (class_trans x y z h.0 k.0, classes_trans xs ys zs h.1 k.1)

module _ {L S : Type 0} (old new : MemoValue L S)
    (stays : (i : ℕ) (e : Expr L) → slice_get old.exprs i ≡ Some e → (e' : Expr L) × (slice_get new.exprs i ≡ Some e') × (e'.label ≡ e.label) × AllZip (IsOneClass new.exprs) e'.inputs e.inputs)
    (merges : (x y : ℕ) → IsOneClass old.exprs x y → IsOneClass new.exprs x y)
    (joins : (i : ℕ) (j : Join) → slice_get old.joins i ≡ Some j → IsOneClass new.exprs j.left j.right)
    (complete : (i : ℕ) (e : Expr L) → slice_get new.exprs i ≡ Some e → (j : ℕ) × (f : Expr L) × (slice_get new.exprs j ≡ Some f) × (f.live ≡ true) × (f.label ≡ e.label) × AllZip (IsOneClass new.exprs) f.inputs e.inputs × IsOneClass new.exprs j i)
    (settled : IsSettled new) where
  -- what has to be merged is merged
  mutual
    pub least : {x y : ℕ} → IsMerged old x y → IsOneClass new.exprs x y
    least (was {x} {y} h) = merges x y h
    least (joined j i at) = joins i j at
    least (alike {x} {y} a b at_a at_b label inputs) =
        let (a', at_a', label_a, zip_a) = stays x a at_a in
        let (b', at_b', label_b, zip_b) = stays y b at_b in
        let (j, f, at_f, live_f, label_f, zip_f, one_f) = complete x a' at_a' in
        let (k, g, at_g, live_g, label_g, zip_g, one_g) = complete y b' at_b' in
        let there = classes_trans new.exprs f.inputs a'.inputs a.inputs zip_f zip_a in
        let back = classes_sym new.exprs g.inputs b.inputs (classes_trans new.exprs g.inputs b'.inputs b.inputs zip_g zip_b) in
        let all = classes_trans new.exprs f.inputs a.inputs g.inputs there (classes_trans new.exprs a.inputs b.inputs g.inputs (leasts inputs) back) in
        let same : j ≡ k = settled j k f g (at_f, live_f) (at_g, live_g) (label_f ∙ label_a ∙ label ∙ sym label_b ∙ sym label_g) all in
        class_trans new.exprs x j y (class_sym new.exprs j x one_f) (subst (λ n. IsOneClass new.exprs n y) (sym same) one_g)
    least (turned {x} {y} h) = class_sym new.exprs x y (least h)
    least (chained {x} {y} {z} h k) = class_trans new.exprs x y z (least h) (least k)

    leasts : {xs ys : List ℕ} → AreMerged old xs ys → AllZip (IsOneClass new.exprs) xs ys
    leasts none = tt
    leasts (more h hs) = (least h, leasts hs)
