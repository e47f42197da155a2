-- Rows in the order of their keys: one more keeps the order, and the order leaves no choice.
use Rattle.std.proofs.Common.{◌≡◌, Bool, true, false, cond, List, [], ◌∷◌, map, Option, Some, None, true≢false, refl, sym, ap, ◌∙◌, subst}
use Rattle.std.specs.Cmp.{IsTotalOrder}
use Rattle.std.specs.Cmp.Lexicographic.{nat_list_cmp_total, nat_list_eq_equiv, lists_total, lists_ties, lists_equiv, texts_ties, pointwise_decides, bytes_decides}
use Rattle.std.specs.List.{AllByRecursion}
use Rattle.std.specs.List.Sorted.{IsPermutation, IsStrictlySortedBy}
use Rattle.std.specs.Ordering.{eq_by_cmp, is_eq, is_lt, ordering_reverse}
use Rattle.std.specs.declared.cmp.Ordering.{Ordering}
use Rattle.std.specs.declared.cmp.Ordering.TheVariants.{Less, Equal, Greater}
use Rattle.std.proofs.lemmas.List.Sorted.{IsPermutation-refl, IsPermutation-cons, IsPermutation-trans, IsPermutation-middle}
use Rattle.pr_value.specs.Symbols.{Symbol}
use Rattle.pr_value.specs.SymbolSets.{same_list}
use Rattle.pr_value.specs.declared.value.Value.{Value}
use Rattle.catalog.specs.Contents.{Row, value_at}
use Rattle.catalog.specs.Keys.{compare_keys}
use Rattle.catalog.specs.Shape.{with_row}

-- ---- keys

abbrev pub keys : Row → List Symbol
keys r = r.keys

pub keys_total : IsTotalOrder compare_keys
keys_total = lists_total nat_list_cmp_total

pub keys_tie : (x y : List Symbol) → same_list x y ≡ eq_by_cmp compare_keys x y
keys_tie x y = lists_ties _ texts_ties x y

pub same_keys : (x y : List Symbol) → same_list x y ≡ true → x ≡ y
same_keys x y e = (pointwise_decides bytes_decides x y).0 e

pub same_itself : (x : List Symbol) → same_list x x ≡ true
same_itself x = (pointwise_decides bytes_decides x x).1 refl

pub same_flip : (x y : List Symbol) → same_list x y ≡ same_list y x
same_flip x y = (lists_equiv nat_list_eq_equiv).symm x y

-- ---- one more row

pub with_row-moves : (r : Row) (rs : List Row) → IsPermutation (r ∷ rs) (with_row r rs)
with_row-moves r [] = IsPermutation-refl (r ∷ [])
with_row-moves r (s ∷ rs) = by_test (is_lt (compare_keys r.keys s.keys)) (with_row-moves r rs) where
  by_test : (b : Bool) → IsPermutation (r ∷ rs) (with_row r rs) → IsPermutation (r ∷ s ∷ rs) (cond b (r ∷ s ∷ rs) (s ∷ with_row r rs))
  by_test true moved = IsPermutation-refl (r ∷ s ∷ rs)
  by_test false moved = IsPermutation-trans _ (s ∷ r ∷ rs) _ (IsPermutation-middle (r ∷ []) s rs) (IsPermutation-cons s _ _ moved)

abbrev pub Rise : List Row → Type 0
Rise rs = IsStrictlySortedBy compare_keys (map keys rs)

abbrev IsBelow : List Symbol → List Row → Type 0
IsBelow k rs = AllByRecursion (λ l. compare_keys k l ≡ Less) (map keys rs)

below-with_row : (k : List Symbol) (r : Row) (rs : List Row) → compare_keys k r.keys ≡ Less → IsBelow k rs → IsBelow k (with_row r rs)
below-with_row k r [] less below = (less, tt)
below-with_row k r (s ∷ rs) less below = by_test (is_lt (compare_keys r.keys s.keys)) (below-with_row k r rs less below.1) where
  by_test : (b : Bool) → IsBelow k (with_row r rs) → IsBelow k (cond b (r ∷ s ∷ rs) (s ∷ with_row r rs))
  by_test true later = (less, below)
  by_test false later = (below.0, later)

below-less : (j k : List Symbol) (rs : List Row) → compare_keys j k ≡ Less → IsBelow k rs → IsBelow j rs
below-less j k [] less below = tt
below-less j k (r ∷ rs) less below = (keys_total.trans j k r.keys less below.0, below-less j k rs less below.1)

pub rise-with_row : (r : Row) (rs : List Row) → AllByRecursion (λ l. same_list r.keys l ≡ false) (map keys rs) → Rise rs → Rise (with_row r rs)
unfolding IsStrictlySortedBy
rise-with_row r [] fresh rise = (tt, tt)
rise-with_row r (s ∷ rs) fresh rise = by_order (compare_keys r.keys s.keys) refl (rise-with_row r rs fresh.1 rise.1) where
  by_order : (o : Ordering) → compare_keys r.keys s.keys ≡ o → Rise (with_row r rs) → Rise (cond (is_lt o) (r ∷ s ∷ rs) (s ∷ with_row r rs))
  by_order Less e more = ((e, below-less r.keys s.keys rs e rise.0), rise)
  by_order Equal e more = absurd (true≢false (sym (ap is_eq e) ∙ sym (keys_tie r.keys s.keys) ∙ fresh.0))
  by_order Greater e more = (below-with_row s.keys r rs (keys_total.antisymm s.keys r.keys ∙ ap ordering_reverse e) rise.0, more)

-- ---- rows that rise, by their values

below-none : (k : List Symbol) (rs : List Row) → IsBelow k rs → value_at rs k ≡ None
below-none k [] below = refl
below-none k (r ∷ rs) below =
    let other : same_list r.keys k ≡ false = keys_tie r.keys k ∙ ap is_eq (keys_total.antisymm r.keys k ∙ ap ordering_reverse below.0) in
    ap (λ b. cond b (Some r.value) (value_at rs k)) other ∙ below-none k rs below.1

value_at-first : (r : Row) (rs : List Row) → value_at (r ∷ rs) r.keys ≡ Some r.value
value_at-first r rs = ap (λ b. cond b (Some r.value) (value_at rs r.keys)) (same_itself r.keys)

none_some : (v : Value) → None ≡ Some v → ⊥
none_some v e = cc

some_same : (v w : Value) → Some v ≡ Some w → v ≡ w
some_same v w e = cc

-- the values behind equal first rows are the same
values_behind : (x y : Row) (xs ys : List Row) → x.keys ≡ y.keys → IsBelow x.keys xs → IsBelow y.keys ys → ((ks : List Symbol) → value_at (x ∷ xs) ks ≡ value_at (y ∷ ys) ks) → (ks : List Symbol) → value_at xs ks ≡ value_at ys ks
values_behind x y xs ys k below below' same ks = by_test (same_list x.keys ks) refl where
  by_test : (b : Bool) → same_list x.keys ks ≡ b → value_at xs ks ≡ value_at ys ks
  by_test true e =
      let here = same_keys x.keys ks e in
      below-none ks xs (subst (λ l. IsBelow l xs) here below) ∙ sym (below-none ks ys (subst (λ l. IsBelow l ys) (sym k ∙ here) below'))
  by_test false e =
      sym (ap (λ b. cond b (Some x.value) (value_at xs ks)) e) ∙ same ks ∙ ap (λ b. cond b (Some y.value) (value_at ys ks)) (ap (λ l. same_list l ks) (sym k) ∙ e)

pub same_rows : (xs ys : List Row) → Rise xs → Rise ys → ((ks : List Symbol) → value_at xs ks ≡ value_at ys ks) → xs ≡ ys
unfolding IsStrictlySortedBy
same_rows [] [] up down same = refl
same_rows [] (y ∷ ys) up down same = absurd (none_some y.value (same y.keys ∙ value_at-first y ys))
same_rows (x ∷ xs) [] up down same = absurd (none_some x.value (sym (same x.keys) ∙ value_at-first x xs))
same_rows (x ∷ xs) (y ∷ ys) up down same = by_order (compare_keys x.keys y.keys) refl (same_rows xs ys up.1 down.1) where
  by_order : (o : Ordering) → compare_keys x.keys y.keys ≡ o → (((ks : List Symbol) → value_at xs ks ≡ value_at ys ks) → xs ≡ ys) → x ∷ xs ≡ y ∷ ys
  by_order Less e rest = absurd (none_some x.value (sym (below-none x.keys (y ∷ ys) (e, below-less x.keys y.keys ys e down.0)) ∙ sym (same x.keys) ∙ value_at-first x xs))
  by_order Greater e rest =
      let less : compare_keys y.keys x.keys ≡ Less = keys_total.antisymm y.keys x.keys ∙ ap ordering_reverse e in
      absurd (none_some y.value (sym (below-none y.keys (x ∷ xs) (less, below-less y.keys x.keys xs less up.0)) ∙ same y.keys ∙ value_at-first y ys))
  by_order Equal e rest =
      let k : x.keys ≡ y.keys = same_keys x.keys y.keys (keys_tie x.keys y.keys ∙ ap is_eq e) in
      let v : x.value ≡ y.value = some_same x.value y.value (sym (value_at-first x xs) ∙ same x.keys ∙ ap (value_at (y ∷ ys)) k ∙ value_at-first y ys) in
      let tails = rest (values_behind x y xs ys k up.0 down.0 same) in
      λ i. record { keys = k i; value = v i } ∷ tails i
