-- Rows: their keys differ, and their order does not matter.
use Rattle.std.proofs.Common.{◌≡◌, ◌⊎◌, inl, inr, ℕ, zero, suc, ◌+◌, ◌<◌, Bool, true, false, cond, List, [], ◌∷◌, length, get_or, map, Option, Some, None, option_map, option_and_then, is_some, Vec, Global, Err, true≢false, refl, sym, ap, ◌∙◌, subst, arith}
use Rattle.std.specs.declared.cmp.Ordering.{Ordering}
use Rattle.std.specs.declared.cmp.Ordering.TheVariants.{Less, Equal, Greater}
use Rattle.std.specs.Bool.{OnFalse}
use Rattle.std.specs.Cmp.{IsTotalOrder}
use Rattle.std.specs.Cmp.Lexicographic.{nat_list_cmp_total, nat_list_eq_equiv, lists_total, lists_ties, lists_equiv, texts_ties, pointwise_decides, bytes_decides}
use Rattle.std.specs.List.{AllZip, Any, AllByRecursion, IsAllAdjacentAnswer, Contains, IsDistinct, find}
use Rattle.std.specs.List.Sorted.{IsPermutation, IsSortedBy, IsStrictlySortedBy}
use Rattle.std.specs.Ordering.{eq_by_cmp, is_eq, is_lt, ordering_reverse}
use Rattle.std.proofs.lemmas.List.{get_or-map, length-map}
use Rattle.std.proofs.lemmas.List.Sorted.{Contains-permutation, IsPermutation-map, IsPermutation-sym, IsPermutation-refl, IsPermutation-cons, IsPermutation-trans}
use Rattle.std.proofs.lemmas.Map.Keys.{IsDistinct-from_sorted, IsDistinct-tail, IsDistinct-IsPermutation, apart_from_distinct, sorted_from_all_adjacent}
use Rattle.serde_json.specs.View.{view, items_view}
use Rattle.serde_json.specs.declared.value.Value.{Value as Json}
use Rattle.pr_value.specs.Symbols.{Symbol}
use Rattle.pr_value.specs.SymbolSets.{same_list}
use Rattle.pr_value.specs.declared.value.Value.{Value}
use Rattle.pr_value.specs.declared.value.Value.TheVariants as value
use Rattle.catalog.specs.Contents.{Row, value_at}
use Rattle.value_json.specs.Errors.{ReadsBy, ReadsEach}
use Rattle.catalog.specs.Keys.{compare_keys}
use Rattle.catalog.specs.Shape.{row_in, rows_in, with_row, with_new_row}
use Rattle.catalog.proofs.RowOrder.{keys, keys_total, keys_tie, same_keys, same_itself, same_flip, Rise, with_row-moves, rise-with_row, same_rows}
use Rattle.value_json.specs.declared.part_error.PartError.{PartError}
use Rattle.value_json.specs.declared.part_error.PartError.TheVariants as part_error
use Rattle.value_json.proofs.EachLaws.{Any-cases, Any-nil}

-- no two rows have equal keys
abbrev Differ : List Row → Type 0
Differ rs = IsDistinct same_list (map keys rs)

pub differ_from_strict : (rs : List Row) → IsStrictlySortedBy compare_keys (map keys rs) → Differ rs
differ_from_strict rs up = subst (λ E. IsDistinct E (map keys rs)) (λ i x y. sym (keys_tie x y) i) (IsDistinct-from_sorted compare_keys (map keys rs) up)

differ_permuted : (xs ys : List Row) → IsPermutation xs ys → Differ xs → Differ ys
differ_permuted xs ys moved apart = IsDistinct-IsPermutation same_list same_flip (map keys xs) (map keys ys) (IsPermutation-map keys xs ys moved) apart

-- ---- a look-up

pub value_at-find : (rs : List Row) (ks : List Symbol) → value_at rs ks ≡ option_map (λ r. r.value) (find (λ r. same_list r.keys ks) rs)
value_at-find [] ks = refl
value_at-find (r ∷ rs) ks =
    elim (same_list r.keys ks) as (λ b. cond b (Some r.value) (value_at rs ks) ≡ option_map (λ s. s.value) (cond b (Some r) (find (λ s. same_list s.keys ks) rs))) [
      | true ↦ refl
      | false ↦ value_at-find rs ks
    ]

pub value_at_found : (rs : List Row) (ks : List Symbol) (o : Option Row) → o ≡ find (λ r. same_list r.keys ks) rs → option_map (λ r. r.value) o ≡ value_at rs ks
value_at_found rs ks o is = ap (option_map (λ r. r.value)) is ∙ sym (value_at-find rs ks)

-- the row at a place is found by its keys
value_at_place : (rs : List Row) (i : ℕ) (r : Row) → Differ rs → i < length rs → get_or rs i r ≡ r → value_at rs r.keys ≡ Some r.value
value_at_place [] i r apart within is = absurd (omega (arith, within))
value_at_place (s ∷ rs) zero r apart within is =
    subst (λ (t : Row). value_at (t ∷ rs) r.keys ≡ Some r.value) (sym is) (ap (λ b. cond b (Some r.value) (value_at rs r.keys)) (same_itself r.keys))
value_at_place (s ∷ rs) (suc i) r apart within is =
    let there : get_or (map keys rs) i r.keys ≡ r.keys = get_or-map keys rs i r r.keys (omega (arith, within)) ∙ ap keys is in
    let other : same_list s.keys r.keys ≡ false =
    sym (ap (same_list s.keys) there) ∙ apart_from_distinct same_list (map keys (s ∷ rs)) 0 (suc i) r.keys apart (omega arith) (omega (arith, within, length-map rs keys)) in
    ap (λ b. cond b (Some s.value) (value_at rs r.keys)) other ∙ value_at_place rs i r (IsDistinct-tail same_list s.keys (map keys rs) apart) (omega (arith, within)) is

-- what is found is the value of a row
place_of_value : (rs : List Row) (ks : List Symbol) (v : Value) → value_at rs ks ≡ Some v → (r : Row) × Contains rs r × (r.keys ≡ ks) × (r.value ≡ v)
place_of_value [] ks v e = cc
place_of_value (r ∷ rs) ks v e =
    elim (same_list r.keys ks) as (λ b. same_list r.keys ks ≡ b → cond b (Some r.value) (value_at rs ks) ≡ Some v → (s : Row) × Contains (r ∷ rs) s × (s.keys ≡ ks) × (s.value ≡ v)) [
      | true ↦ λ tie same. (r, (0, omega arith, refl), same_keys r.keys ks tie, cc)
      | false ↦ λ tie same.
          let later = place_of_value rs ks v same in
          (later.0, (suc later.1.0, omega (arith, later.1.1), later.1.2), later.2, later.3)
    ] refl e

value_at_moved : (xs ys : List Row) → IsPermutation xs ys → Differ ys → (ks : List Symbol) (v : Value) → value_at xs ks ≡ Some v → value_at ys ks ≡ Some v
value_at_moved xs ys moved apart ks v e =
    let found = place_of_value xs ks v e in
    let r : Row = found.0 in
    let there = Contains-permutation xs ys r moved found.1 in
    sym (ap (value_at ys) found.2) ∙ value_at_place ys there.0 r apart there.1 there.2 ∙ ap Some found.3

none_or : (o p : Option Value) → ((v : Value) → o ≡ Some v → p ≡ Some v) → ((v : Value) → p ≡ Some v → o ≡ Some v) → p ≡ o
none_or (Some v) p there back = there v refl
none_or None (Some v) there back = sym (back v refl)
none_or None None there back = refl

-- the order does not matter
pub value_at_permuted : (xs ys : List Row) → IsPermutation xs ys → Differ ys → (ks : List Symbol) → value_at ys ks ≡ value_at xs ks
value_at_permuted xs ys moved apart ks =
    let back = IsPermutation-sym xs ys moved in
    none_or (value_at xs ks) (value_at ys ks) (value_at_moved xs ys moved apart ks) (value_at_moved ys xs back (differ_permuted ys xs back apart) ks)

-- ---- an array of rows

-- the rows, if their keys differ
kept : List Row → Option (List Row)
kept [] = Some []
kept (r ∷ rs) = option_and_then (with_new_row r) (kept rs)

rows_in_all : (vs : List Json) (rs : List Row) → AllZip (λ v r. row_in (view v) ≡ Some r) vs rs → rows_in (items_view vs) ≡ kept rs
unfolding kept
rows_in_all [] [] all = refl
rows_in_all [] (r ∷ rs) all = absurd all
rows_in_all (v ∷ vs) [] all = absurd all
rows_in_all (v ∷ vs) (r ∷ rs) all = λ i. option_and_then (λ s. option_and_then (with_new_row s) (rows_in_all vs rs all.1 i)) (all.0 i)

none_behind : (o : Option Row) → option_and_then (λ (s : Row). option_and_then (with_new_row s) None) o ≡ None
none_behind None = refl
none_behind (Some r) = refl

rows_in_none : (vs : List Json) → Any (λ v. row_in (view v) ≡ None) vs → rows_in (items_view vs) ≡ None
rows_in_none [] some = absurd (Any-nil (λ v. row_in (view v) ≡ None) some)
rows_in_none (v ∷ vs) some =
    elim (Any-cases (λ v. row_in (view v) ≡ None) v vs some) [
      | inl none ↦ ap (option_and_then (λ s. option_and_then (with_new_row s) (rows_in (items_view vs)))) none
      | inr later ↦ ap (λ o. option_and_then (λ s. option_and_then (with_new_row s) o) (row_in (view v))) (rows_in_none vs later) ∙ none_behind (row_in (view v))
    ]

-- no row has these keys, or one has
fresh_or_not : (ks : List Symbol) (rs : List Row) → (is_some (value_at rs ks) ≡ false) × AllByRecursion (λ y. same_list ks y ≡ false) (map keys rs) ⊎ (is_some (value_at rs ks) ≡ true) × ¬ (AllByRecursion (λ y. same_list ks y ≡ false) (map keys rs))
fresh_or_not ks [] = inl (refl, tt)
fresh_or_not ks (r ∷ rs) =
    elim (same_list r.keys ks) as (λ b. same_list r.keys ks ≡ b → (is_some (cond b (Some r.value) (value_at rs ks)) ≡ false) × AllByRecursion (λ y. same_list ks y ≡ false) (map keys (r ∷ rs)) ⊎ (is_some (cond b (Some r.value) (value_at rs ks)) ≡ true) × ¬ (AllByRecursion (λ y. same_list ks y ≡ false) (map keys (r ∷ rs)))) [
      | true ↦ λ tie. inr (refl, λ all. true≢false (sym tie ∙ same_flip r.keys ks ∙ all.0))
      | false ↦ λ tie. elim (fresh_or_not ks rs) [
        | inl fresh ↦ inl (fresh.0, (same_flip ks r.keys ∙ tie, fresh.1))
        | inr taken ↦ inr (taken.0, λ all. taken.1 all.1)
      ]
    ] refl

-- the rows in the order of their keys
arranged : List Row → List Row
arranged [] = []
arranged (r ∷ rs) = with_row r (arranged rs)

arranged-moves : (rs : List Row) → IsPermutation rs (arranged rs)
unfolding arranged
arranged-moves [] = IsPermutation-refl []
arranged-moves (r ∷ rs) = IsPermutation-trans _ (r ∷ arranged rs) _ (IsPermutation-cons r _ _ (arranged-moves rs)) (with_row-moves r (arranged rs))

first_moves : (r : Row) (rs : List Row) → IsPermutation (r ∷ rs) (r ∷ arranged rs)
first_moves r rs = IsPermutation-cons r _ _ (arranged-moves rs)

kept_or_not : (rs : List Row) → (kept rs ≡ Some (arranged rs)) × Rise (arranged rs) × Differ rs ⊎ (kept rs ≡ None) × ¬ (Differ rs)
unfolding kept arranged IsDistinct IsStrictlySortedBy
kept_or_not [] = inl (refl, tt, tt)
kept_or_not (r ∷ rs) =
    let told : Bool → Option (List Row) = λ b. cond b None (Some (with_row r (arranged rs))) in
    elim (kept_or_not rs) [
      | inl all ↦ elim (fresh_or_not r.keys (arranged rs)) [
        | inl fresh ↦ inl (
          ap (option_and_then (with_new_row r)) all.0 ∙ ap told fresh.0,
          rise-with_row r (arranged rs) fresh.1 all.1,
          differ_permuted (r ∷ arranged rs) (r ∷ rs) (IsPermutation-sym _ _ (first_moves r rs)) (fresh.1, differ_permuted rs (arranged rs) (arranged-moves rs) all.2),
        )
        | inr taken ↦ inr (ap (option_and_then (with_new_row r)) all.0 ∙ ap told taken.0, λ apart. taken.1 (differ_permuted (r ∷ rs) (r ∷ arranged rs) (first_moves r rs) apart).0)
      ]
      | inr none ↦ inr (ap (option_and_then (with_new_row r)) none.0, λ apart. none.1 apart.1)
    ]

abbrev Says : List Json → List Row → Type 0
Says vs rs = AllZip (λ v r. row_in (view v) ≡ Some r) vs rs

pub rows_read : (vs : List Json) (xs ys : List Row) → Says vs xs → IsPermutation xs ys → Rise ys → rows_in (items_view vs) ≡ Some ys
rows_read vs xs ys all moved up =
    let apart = differ_from_strict ys up in
    elim (kept_or_not xs) [
      | inl whole ↦
          let again = IsPermutation-trans (arranged xs) xs ys (IsPermutation-sym xs (arranged xs) (arranged-moves xs)) moved in
          rows_in_all vs xs all ∙ whole.0 ∙ ap Some (same_rows (arranged xs) ys whole.1 up (λ ks. sym (value_at_permuted (arranged xs) ys again apart ks)))
      | inr none ↦ absurd (none.1 (differ_permuted ys xs (IsPermutation-sym xs ys moved) apart))
    ]

pub rows_refused : (vs : List Json) (xs ys : List Row) → Says vs xs → IsPermutation xs ys → ¬ (Differ ys) → rows_in (items_view vs) ≡ None
rows_refused vs xs ys all moved equal =
    rows_in_all vs xs all ∙ elim (kept_or_not xs) [ inl whole ↦ absurd (equal (differ_permuted xs ys moved whole.2)) | inr none ↦ none.0 ]

pub rows_unread : (vs : List Json) (e : PartError) → ReadsEach (λ (v : Vec Row Global). v.items) (λ v o. row_in (view v) ≡ o) vs (Err e) → ReadsBy (λ o. rows_in (items_view vs) ≡ o) (Err e)
rows_unread vs part_error.Misshapen some = rows_in_none vs some
rows_unread vs part_error.Memory some = tt

-- ---- neighbours

less_from_is_lt : (o : Ordering) → true ≡ is_lt o → o ≡ Less
less_from_is_lt Less e = refl
less_from_is_lt Equal e = cc
less_from_is_lt Greater e = cc

tie_from_neither : (o : Ordering) → false ≡ is_lt o → is_lt (ordering_reverse o) ≡ false → is_eq o ≡ true
tie_from_neither Less e f = cc
tie_from_neither Equal e f = refl
tie_from_neither Greater e f = cc

abbrev AreLess : Row → Row → Bool → Type 0
AreLess r s b = b ≡ is_lt (compare_keys r.keys s.keys)

no_row : Row
no_row = record { keys = []; value = value.Truth false }

pub strict_from_answer : (rs : List Row) (b : Bool) → IsAllAdjacentAnswer AreLess rs b → b ≡ true → IsStrictlySortedBy compare_keys (map keys rs)
strict_from_answer rs false answer is = absurd (true≢false (sym is))
strict_from_answer rs true answer is =
    sorted_from_all_adjacent keys_total (map keys rs) [] (λ k within.
    let to : k + 1 < length rs = omega (arith, within, length-map rs keys) in
    let e = get_or-map keys rs k no_row [] (omega (arith, to)) in
    let f = get_or-map keys rs (k + 1) no_row [] to in
    (λ i. compare_keys (e i) (f i)) ∙ less_from_is_lt _ (answer k no_row to))

pub equal_from_answer : (rs : List Row) (b : Bool) → IsSortedBy (λ r s. is_lt (compare_keys r.keys s.keys)) rs → IsAllAdjacentAnswer AreLess rs b → OnFalse b (¬ (Differ rs))
equal_from_answer rs true up answer = tt
equal_from_answer rs false up answer = λ apart.
    let k = answer.0 in
    let r = get_or rs k no_row in
    let s = get_or rs (k + 1) no_row in
    let back : is_lt (ordering_reverse (compare_keys r.keys s.keys)) ≡ false = sym (ap is_lt (keys_total.antisymm s.keys r.keys)) ∙ up k no_row (omega arith) answer.1 in
    let tie : same_list r.keys s.keys ≡ true = keys_tie r.keys s.keys ∙ tie_from_neither _ (answer.2 no_row) back in
    let e = get_or-map keys rs k no_row [] (omega (arith, answer.1)) in
    let f = get_or-map keys rs (k + 1) no_row [] answer.1 in
    let apart_here = apart_from_distinct same_list (map keys rs) k (k + 1) [] apart (omega arith) (omega (arith, answer.1, length-map rs keys)) in
    true≢false (sym tie ∙ sym (λ i. same_list (e i) (f i)) ∙ apart_here)
