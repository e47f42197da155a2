-- A new term keeps a table of terms.
use Rattle.std.proofs.Common.{◌≡◌, ℕ, zero, suc, ◌<◌, Bool, true, false, cond, List, [], ◌∷◌, ◌++◌, length, Some, slice_get, refl, ap, sym, ◌∙◌, subst, arith, true≢false, ◌||◌}
use Rattle.std.specs.Prelude.{◌⊎◌, All}
use Rattle.std.proofs.Common.{inl, inr}
use Rattle.std.specs.List.{list_any}
use Rattle.indexmap.specs.IndexSet.{insert_key}
use Rattle.derivation.specs.declared.terms.Term.{Term}
use Rattle.derivation.specs.Table.{AreDistinct, AreEarlier, AreOverOne, IsOverOne, IsAdded}

some_is : {A : Type 0} (a b : A) → Some a ≡ Some b → a ≡ b
some_is a b e = cc

-- an element of a list with one more at its end is one of the list, or the one more at the list's length
pub at_end : {A : Type 0} (xs : List A) (y : A) (i : ℕ) (x : A) → slice_get (xs ++ y ∷ []) i ≡ Some x → (slice_get xs i ≡ Some x) ⊎ ((y ≡ x) × (i ≡ length xs))
at_end [] y zero x e = inr (some_is y x e, refl)
at_end [] y (suc i) x e = cc
at_end (z ∷ xs) y zero x e = inl e
at_end (z ∷ xs) y (suc i) x e = elim (at_end xs y i x e) [ inl h ↦ inl h | inr h ↦ inr (h.0, ap suc h.1) ]

or_false : (a b : Bool) → (a || b) ≡ false → (a ≡ false) × (b ≡ false)
or_false false b e = (refl, e)
or_false true b e = absurd (true≢false e)

module _ {A : Type 0} (same : A → A → Bool) (one : (a : A) → same a a ≡ true) where
  absent : (ks : List A) (k : A) → list_any (same k) ks ≡ false → (i : ℕ) → slice_get ks i ≡ Some k → ⊥
  absent [] k none i e = cc
  absent (x ∷ ks) k none zero e = true≢false (sym (one k) ∙ ap (same k) (sym (some_is x k e)) ∙ (or_false (same k x) (list_any (same k) ks) none).0)
  absent (x ∷ ks) k none (suc i) e = absent ks k (or_false (same k x) (list_any (same k) ks) none).1 i e

  within : {B : Type 0} (xs : List B) (i : ℕ) (x : B) → slice_get xs i ≡ Some x → i < length xs
  within [] i x e = cc
  within (y ∷ xs) zero x e = omega arith
  within (y ∷ xs) (suc i) x e = let h = within xs i x e in omega (arith, h)

  distinct_push : (ks : List A) (k : A) → AreDistinct ks → list_any (same k) ks ≡ false → AreDistinct (ks ++ k ∷ [])
  distinct_push ks k d none i j t a b = by (at_end ks k i t a) (at_end ks k j t b)
    where
      by : (slice_get ks i ≡ Some t) ⊎ ((k ≡ t) × (i ≡ length ks)) → (slice_get ks j ≡ Some t) ⊎ ((k ≡ t) × (j ≡ length ks)) → i ≡ j
      by (inl x) (inl y) = d i j t x y
      by (inl x) (inr y) = absurd (absent ks k none i (x ∙ ap Some (sym y.0)))
      by (inr x) (inl y) = absurd (absent ks k none j (y ∙ ap Some (sym x.0)))
      by (inr x) (inr y) = x.1 ∙ sym y.1

  pub insert_distinct : (ks : List A) (k : A) → AreDistinct ks → AreDistinct (insert_key same ks k)
  insert_distinct ks k d = by (list_any (same k) ks) refl
    where
      by : (b : Bool) → list_any (same k) ks ≡ b → AreDistinct (cond b ks (ks ++ k ∷ []))
      by true e = d
      by false e = distinct_push ks k d e

  pub insert_added : (ks : List A) (k : A) → IsAdded ks (insert_key same ks k) k
  insert_added ks k = by (list_any (same k) ks)
    where
      by : (b : Bool) → IsAdded ks (cond b ks (ks ++ k ∷ [])) k
      by true = inl refl
      by false = inr refl

pub added_earlier : {L : Type 0} (ks ls : List (Term L)) (k : Term L) → AreEarlier ks → All (λ n. n < length ks) k.inputs → IsAdded ks ls k → AreEarlier ls
added_earlier {L} ks ls k e below (inl is) = subst AreEarlier (sym is) e
added_earlier {L} ks ls k e below (inr is) = subst AreEarlier (sym is) (λ i t a. elim (at_end ks k i t a) [ inl h ↦ e i t h | inr h ↦ subst (λ n. All (λ m. m < n) t.inputs) (sym h.1) (subst (λ (u : Term L). All (λ m. m < length ks) u.inputs) h.0 below) ])

pub added_over_one : {L : Type 0} (on_edge : L → Bool) (ks ls : List (Term L)) (k : Term L) → AreOverOne on_edge ks → IsOverOne on_edge k → IsAdded ks ls k → AreOverOne on_edge ls
added_over_one on_edge ks ls k o one (inl is) = subst (AreOverOne on_edge) (sym is) o
added_over_one on_edge ks ls k o one (inr is) = subst (AreOverOne on_edge) (sym is) (λ i t a. elim (at_end ks k i t a) [ inl h ↦ o i t h | inr h ↦ subst (IsOverOne on_edge) h.0 one ])
