-- What a binary search finds by a key, where the keys ascend.
use Rattle.std.proofs.Common.{◌≡◌, ℕ, zero, suc, ◌+◌, ◌<◌, Bool, true, false, cond, List, [], ◌∷◌, length, get_or, map, Some, None, Result, Ok, Err, MatchResult, inl, inr, refl, sym, ap, ◌∙◌, subst, arith}
use Rattle.std.specs.declared.cmp.Ordering.{Ordering}
use Rattle.std.specs.declared.cmp.Ordering.TheVariants.{Less}
use Rattle.std.specs.Cmp.{IsTotalOrder, alike_right}
use Rattle.std.specs.List.{find, slice_get}
use Rattle.std.specs.List.Sorted.{IsStrictlySortedBy, IsSortedBy, IsBinarySearchResult, IsSearchInRange}
use Rattle.std.specs.Ordering.{ordering_reverse, eq_by_cmp, is_eq, is_lt}
use Rattle.std.proofs.lemmas.Bool.{cases_lt}
use Rattle.std.proofs.lemmas.List.{length-map}
use Rattle.std.proofs.lemmas.List.{get_or-map}
use Rattle.std.proofs.lemmas.List.Sorted.{searchable_from_sorted}
use Rattle.std.proofs.lemmas.Map.Keys.{Less-from_sorted}

pub find_first : {X : Type 0} (p : X → Bool) (xs : List X) (i : ℕ) → i < length xs → ((j : ℕ) (d : X) → j < i → p (get_or xs j d) ≡ false) → ((d : X) → p (get_or xs i d) ≡ true) → find p xs ≡ slice_get xs i
find_first p [] i within before here = absurd (omega (arith, within))
find_first p (x ∷ xs) zero within before here = ap (λ b. cond b (Some x) (find p xs)) (here x)
find_first p (x ∷ xs) (suc i) within before here =
    ap (λ b. cond b (Some x) (find p xs)) (before 0 x (omega arith))
    ∙ find_first p xs i (omega (arith, within)) (λ j d below. before (suc j) d (omega (arith, below))) here

pub find_none : {X : Type 0} (p : X → Bool) (xs : List X) → ((j : ℕ) (d : X) → j < length xs → p (get_or xs j d) ≡ false) → find p xs ≡ None
find_none p [] none = refl
find_none p (x ∷ xs) none =
    ap (λ b. cond b (Some x) (find p xs)) (none 0 x (omega arith)) ∙ find_none p xs (λ j d within. none (suc j) d (omega (arith, within)))

module _ {K X : Type 0} {R : K → K → Ordering} (o : IsTotalOrder R) (key : X → K) where
  -- an earlier key is below a later one
  pub rises : (xs : List X) → IsStrictlySortedBy R (map key xs) → (i j : ℕ) (d : X) → i < j → j < length xs → R (key (get_or xs i d)) (key (get_or xs j d)) ≡ Less
  rises xs up i j d under within =
      let e = get_or-map key xs i d (key d) (omega (arith, under, within)) in
      let f = get_or-map key xs j d (key d) within in
      sym (λ k. R (e k) (f k)) ∙ Less-from_sorted R (map key xs) i j (key d) up under (subst (λ n. j < n) (sym (length-map xs key)) within)

  sorted_from_strict : (xs : List X) → IsStrictlySortedBy R (map key xs) → IsSortedBy (λ x y. is_lt (R (key x) (key y))) xs
  sorted_from_strict xs up k d from to =
      ap is_lt (o.antisymm _ _ ∙ ap ordering_reverse (rises xs up k (k + 1) d (omega arith) to))

  -- what a search for k answers, where E tests whether two keys tie
  pub find_searched : {E : K → K → Bool} (ties : (x y : K) → E x y ≡ eq_by_cmp R x y) (xs : List X) (k : K) (r : Result ℕ ℕ) → IsStrictlySortedBy R (map key xs) → IsSearchInRange r (length xs) → IsBinarySearchResult (λ y. R (key y) k) xs r
      → MatchResult r (λ i. find (λ x. E (key x) k) xs ≡ slice_get xs i) (λ _. find (λ x. E (key x) k) xs ≡ None)
  find_searched ties xs k (Ok i) up within at =
      find_first _ xs i within
      (λ j d below. ties (key (get_or xs j d)) k ∙ ap is_eq (sym (alike_right o _ _ (key (get_or xs j d)) (at d)) ∙ rises xs up j i d below within))
      (λ d. ties (key (get_or xs i d)) k ∙ ap is_eq (at d))
  find_searched ties xs k (Err i) up within at =
      let parts = at (searchable_from_sorted o key xs k (sorted_from_strict xs up)) in
      find_none _ xs (λ j d to. ties (key (get_or xs j d)) k ∙ elim (cases_lt j i) [
        | inl below ↦ ap is_eq (parts.0 j d (omega arith) below)
        | inr behind ↦ ap is_eq (parts.1 j d behind to)
      ])
