-- Looking a key up among entries.
use Rattle.std.proofs.Common.{◌≡◌, ℕ, zero, suc, Bool, true, false, cond, List, [], ◌∷◌, Some, None, slice_get, refl, ap, sym, ◌∙◌, true≢false}
use Rattle.std.specs.Map.{lookup}
use Rattle.derivation.specs.Table.{IsReflexive}
use Rattle.derivation.specs.declared.terms.Term.{Term}
use Rattle.memo.specs.Index.{IsEntry, IsAbsent, LooksUp}

some_is : {A : Type 0} (a b : A) → Some a ≡ Some b → a ≡ b
some_is a b e = cc

module _ {L : Type 0} (same : Term L → Term L → Bool) (key : Term L) where
  pub found : (is : (s t : Term L) → same s t ≡ true → s ≡ t) (es : List (Term L × ℕ)) (i : ℕ) → lookup (same key) es ≡ Some i → IsEntry es key i
  found is [] i e = cc
  found is (x ∷ es) i e = by (found is es i) (same key x.0) refl
    where
      by : (lookup (same key) es ≡ Some i → IsEntry es key i) → (b : Bool) → same key x.0 ≡ b → IsEntry (x ∷ es) key i
      by rest true h =
          let n : x.1 ≡ i = some_is x.1 i (sym (ap (λ b. cond b (Some x.1) (lookup (same key) es)) h) ∙ e) in
          (0, (λ j. Some (sym (is key x.0 h) j, n j)))
      by rest false h = let r = rest (sym (ap (λ b. cond b (Some x.1) (lookup (same key) es)) h) ∙ e) in (suc r.0, r.1)

  absent_at : (one : same key key ≡ true) (es : List (Term L × ℕ)) → lookup (same key) es ≡ None → (i n : ℕ) → slice_get es n ≡ Some (key, i) → ⊥
  absent_at one [] none i n at = cc
  absent_at one (x ∷ es) none i n at = by (absent_at one es) (same key x.0) refl n at
    where
      by : (lookup (same key) es ≡ None → (i n : ℕ) → slice_get es n ≡ Some (key, i) → ⊥) → (b : Bool) → same key x.0 ≡ b → (m : ℕ) → slice_get (x ∷ es) m ≡ Some (key, i) → ⊥
      by rest true h m a = let e : Some x.1 ≡ None = sym (ap (λ b. cond b (Some x.1) (lookup (same key) es)) h) ∙ none in cc
      by rest false h zero a = true≢false (sym one ∙ ap (λ (p : Term L × ℕ). same key p.0) (sym (some_is x (key, i) a)) ∙ h)
      by rest false h (suc m) a = rest (sym (ap (λ b. cond b (Some x.1) (lookup (same key) es)) h) ∙ none) i m a

  pub absent : (one : same key key ≡ true) (es : List (Term L × ℕ)) → lookup (same key) es ≡ None → IsAbsent es key
  absent one es none i (n, at) = absent_at one es none i n at

pub looks_up : {L : Type 0} {same : Term L → Term L → Bool} → IsReflexive same → ((s t : Term L) → same s t ≡ true → s ≡ t) → LooksUp same
looks_up {L} {same} r is = record { found = λ es key i e. found same key is es i e; absent = λ es key e. absent same key (r.one key) es e }
