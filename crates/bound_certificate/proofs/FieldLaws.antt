-- Fields: their names differ, and their order does not matter.
use Rattle.std.proofs.Common.{◌≡◌, ◌⊎◌, inl, inr, ℕ, zero, suc, ◌+◌, ◌<◌, Bool, true, false, cond, List, [], ◌∷◌, length, get_or, map, Option, Some, None, option_and_then, is_some, true≢false, refl, sym, ap, ◌∙◌, subst, arith}
use Rattle.std.specs.declared.cmp.Ordering.{Ordering}
use Rattle.std.specs.declared.cmp.Ordering.TheVariants.{Less, Equal, Greater}
use Rattle.std.specs.Bool.{OnFalse}
use Rattle.std.specs.List.{AllByRecursion, IsAllAdjacentAnswer, Contains, IsDistinct}
use Rattle.std.specs.List.Sorted.{IsPermutation, IsSortedBy, IsStrictlySortedBy}
use Rattle.std.specs.Ordering.{is_eq, is_lt, ordering_reverse}
use Rattle.std.specs.Str.{bytes_eq}
use Rattle.std.proofs.lemmas.List.{get_or-map, length-map}
use Rattle.std.proofs.lemmas.List.Sorted.{Contains-permutation, IsPermutation-map, IsPermutation-sym, IsPermutation-refl, IsPermutation-cons, IsPermutation-trans}
use Rattle.std.proofs.lemmas.Map.Keys.{IsDistinct-from_sorted, IsDistinct-tail, IsDistinct-IsPermutation, apart_from_distinct, sorted_from_all_adjacent}
use Rattle.pr_value.specs.Symbols.{Symbol}
use Rattle.pr_value.specs.SymbolSets.{compare_symbols}
use Rattle.pr_value.specs.declared.value.Value.{Value}
use Rattle.pr_value.specs.declared.value.Value.TheVariants as value
use Rattle.bound_certificate.specs.Fields.{Field, Rise, field_value, in_order, with_field, with_new_field}
use Rattle.bound_certificate.proofs.FieldOrder.{key, keys_total, keys_tie, same_keys, same_itself, same_flip, with_field-moves, rise-with_field, same_fields}

-- no two fields have equal names
abbrev pub Differ : List Field → Type 0
Differ fs = IsDistinct bytes_eq (map key fs)

pub differ_from_strict : (fs : List Field) → IsStrictlySortedBy compare_symbols (map key fs) → Differ fs
differ_from_strict fs up = subst (λ E. IsDistinct E (map key fs)) (λ i x y. sym (keys_tie x y) i) (IsDistinct-from_sorted compare_symbols (map key fs) up)

differ_permuted : (xs ys : List Field) → IsPermutation xs ys → Differ xs → Differ ys
differ_permuted xs ys moved apart = IsDistinct-IsPermutation bytes_eq same_flip (map key xs) (map key ys) (IsPermutation-map key xs ys moved) apart

-- the field at a place is found by its name
field_value_place : (fs : List Field) (i : ℕ) (f : Field) → Differ fs → i < length fs → get_or fs i f ≡ f → field_value fs f.name ≡ Some f.value
field_value_place [] i f apart within is = absurd (omega (arith, within))
field_value_place (g ∷ fs) zero f apart within is =
    subst (λ (t : Field). field_value (t ∷ fs) f.name ≡ Some f.value) (sym is) (ap (λ b. cond b (Some f.value) (field_value fs f.name)) (same_itself f.name))
field_value_place (g ∷ fs) (suc i) f apart within is =
    let there : get_or (map key fs) i f.name ≡ f.name = get_or-map key fs i f f.name (omega (arith, within)) ∙ ap key is in
    let other : bytes_eq g.name f.name ≡ false =
    sym (ap (bytes_eq g.name) there) ∙ apart_from_distinct bytes_eq (map key (g ∷ fs)) 0 (suc i) f.name apart (omega arith) (omega (arith, within, length-map fs key)) in
    ap (λ b. cond b (Some g.value) (field_value fs f.name)) other ∙ field_value_place fs i f (IsDistinct-tail bytes_eq g.name (map key fs) apart) (omega (arith, within)) is

-- what is found is the value of a field
place_of_value : (fs : List Field) (ks : Symbol) (v : Value) → field_value fs ks ≡ Some v → (f : Field) × Contains fs f × (f.name ≡ ks) × (f.value ≡ v)
place_of_value [] ks v e = cc
place_of_value (f ∷ fs) ks v e =
    elim (bytes_eq f.name ks) as (λ b. bytes_eq f.name ks ≡ b → cond b (Some f.value) (field_value fs ks) ≡ Some v → (g : Field) × Contains (f ∷ fs) g × (g.name ≡ ks) × (g.value ≡ v)) [
      | true ↦ λ tie same. (f, (0, omega arith, refl), same_keys f.name ks tie, cc)
      | false ↦ λ tie same.
          let later = place_of_value fs ks v same in
          (later.0, (suc later.1.0, omega (arith, later.1.1), later.1.2), later.2, later.3)
    ] refl e

field_value_moved : (xs ys : List Field) → IsPermutation xs ys → Differ ys → (ks : Symbol) (v : Value) → field_value xs ks ≡ Some v → field_value ys ks ≡ Some v
field_value_moved xs ys moved apart ks v e =
    let found = place_of_value xs ks v e in
    let f : Field = found.0 in
    let there = Contains-permutation xs ys f moved found.1 in
    sym (ap (field_value ys) found.2) ∙ field_value_place ys there.0 f apart there.1 there.2 ∙ ap Some found.3

none_or : (o p : Option Value) → ((v : Value) → o ≡ Some v → p ≡ Some v) → ((v : Value) → p ≡ Some v → o ≡ Some v) → p ≡ o
none_or (Some v) p there back = there v refl
none_or None (Some v) there back = sym (back v refl)
none_or None None there back = refl

-- the order does not matter
pub field_value_permuted : (xs ys : List Field) → IsPermutation xs ys → Differ ys → (ks : Symbol) → field_value ys ks ≡ field_value xs ks
field_value_permuted xs ys moved apart ks =
    let back = IsPermutation-sym xs ys moved in
    none_or (field_value xs ks) (field_value ys ks) (field_value_moved xs ys moved apart ks) (field_value_moved ys xs back (differ_permuted ys xs back apart) ks)

-- no field has this name, or one has
fresh_or_not : (ks : Symbol) (fs : List Field) → (is_some (field_value fs ks) ≡ false) × AllByRecursion (λ y. bytes_eq ks y ≡ false) (map key fs) ⊎ (is_some (field_value fs ks) ≡ true) × ¬ (AllByRecursion (λ y. bytes_eq ks y ≡ false) (map key fs))
fresh_or_not ks [] = inl (refl, tt)
fresh_or_not ks (f ∷ fs) =
    elim (bytes_eq f.name ks) as (λ b. bytes_eq f.name ks ≡ b → (is_some (cond b (Some f.value) (field_value fs ks)) ≡ false) × AllByRecursion (λ y. bytes_eq ks y ≡ false) (map key (f ∷ fs)) ⊎ (is_some (cond b (Some f.value) (field_value fs ks)) ≡ true) × ¬ (AllByRecursion (λ y. bytes_eq ks y ≡ false) (map key (f ∷ fs)))) [
      | true ↦ λ tie. inr (refl, λ all. true≢false (sym tie ∙ same_flip f.name ks ∙ all.0))
      | false ↦ λ tie. elim (fresh_or_not ks fs) [
        | inl fresh ↦ inl (fresh.0, (same_flip ks f.name ∙ tie, fresh.1))
        | inr taken ↦ inr (taken.0, λ all. taken.1 all.1)
      ]
    ] refl

-- the fields in the order of their names
arranged : List Field → List Field
arranged [] = []
arranged (f ∷ fs) = with_field f (arranged fs)

arranged-moves : (fs : List Field) → IsPermutation fs (arranged fs)
unfolding arranged
arranged-moves [] = IsPermutation-refl []
arranged-moves (f ∷ fs) = IsPermutation-trans _ (f ∷ arranged fs) _ (IsPermutation-cons f _ _ (arranged-moves fs)) (with_field-moves f (arranged fs))

first_moves : (f : Field) (fs : List Field) → IsPermutation (f ∷ fs) (f ∷ arranged fs)
first_moves f fs = IsPermutation-cons f _ _ (arranged-moves fs)

in_order_or_not : (fs : List Field) → (in_order fs ≡ Some (arranged fs)) × Rise (arranged fs) × Differ fs ⊎ (in_order fs ≡ None) × ¬ (Differ fs)
unfolding arranged IsDistinct IsStrictlySortedBy
in_order_or_not [] = inl (refl, tt, tt)
in_order_or_not (f ∷ fs) =
    let told : Bool → Option (List Field) = λ b. cond b None (Some (with_field f (arranged fs))) in
    elim (in_order_or_not fs) [
      | inl all ↦ elim (fresh_or_not f.name (arranged fs)) [
        | inl fresh ↦ inl (
          ap (option_and_then (with_new_field f)) all.0 ∙ ap told fresh.0,
          rise-with_field f (arranged fs) fresh.1 all.1,
          differ_permuted (f ∷ arranged fs) (f ∷ fs) (IsPermutation-sym _ _ (first_moves f fs)) (fresh.1, differ_permuted fs (arranged fs) (arranged-moves fs) all.2),
        )
        | inr taken ↦ inr (ap (option_and_then (with_new_field f)) all.0 ∙ ap told taken.0, λ apart. taken.1 (differ_permuted (f ∷ fs) (f ∷ arranged fs) (first_moves f fs) apart).0)
      ]
      | inr none ↦ inr (ap (option_and_then (with_new_field f)) none.0, λ apart. none.1 apart.1)
    ]

pub in_order_read : (xs ys : List Field) → IsPermutation xs ys → Rise ys → in_order xs ≡ Some ys
in_order_read xs ys moved up =
    let apart = differ_from_strict ys up in
    elim (in_order_or_not xs) [
      | inl whole ↦
          let again = IsPermutation-trans (arranged xs) xs ys (IsPermutation-sym xs (arranged xs) (arranged-moves xs)) moved in
          whole.0 ∙ ap Some (same_fields (arranged xs) ys whole.1 up (λ ks. sym (field_value_permuted (arranged xs) ys again apart ks)))
      | inr none ↦ absurd (none.1 (differ_permuted ys xs (IsPermutation-sym xs ys moved) apart))
    ]

pub in_order_refused : (xs ys : List Field) → IsPermutation xs ys → ¬ (Differ ys) → in_order xs ≡ None
in_order_refused xs ys moved equal =
    elim (in_order_or_not xs) [ inl whole ↦ absurd (equal (differ_permuted xs ys moved whole.2)) | inr none ↦ none.0 ]

-- fields in order stay
pub in_order-Rise : (fs : List Field) → Rise fs → in_order fs ≡ Some fs
in_order-Rise fs up = in_order_read fs fs (IsPermutation-refl fs) up

-- ---- neighbours

less_from_is_lt : (o : Ordering) → true ≡ is_lt o → o ≡ Less
less_from_is_lt Less e = refl
less_from_is_lt Equal e = cc
less_from_is_lt Greater e = cc

tie_from_neither : (o : Ordering) → false ≡ is_lt o → is_lt (ordering_reverse o) ≡ false → is_eq o ≡ true
tie_from_neither Less e f = cc
tie_from_neither Equal e f = refl
tie_from_neither Greater e f = cc

abbrev AreLess : Field → Field → Bool → Type 0
AreLess f g b = b ≡ is_lt (compare_symbols f.name g.name)

no_field : Field
no_field = record { name = []; value = value.Truth false }

pub strict_from_answer : (fs : List Field) (b : Bool) → IsAllAdjacentAnswer AreLess fs b → b ≡ true → IsStrictlySortedBy compare_symbols (map key fs)
strict_from_answer fs false answer is = absurd (true≢false (sym is))
strict_from_answer fs true answer is =
    sorted_from_all_adjacent keys_total (map key fs) [] (λ k within.
    let to : k + 1 < length fs = omega (arith, within, length-map fs key) in
    let e = get_or-map key fs k no_field [] (omega (arith, to)) in
    let f = get_or-map key fs (k + 1) no_field [] to in
    (λ i. compare_symbols (e i) (f i)) ∙ less_from_is_lt _ (answer k no_field to))

pub equal_from_answer : (fs : List Field) (b : Bool) → IsSortedBy (λ f g. is_lt (compare_symbols f.name g.name)) fs → IsAllAdjacentAnswer AreLess fs b → OnFalse b (¬ (Differ fs))
equal_from_answer fs true up answer = tt
equal_from_answer fs false up answer = λ apart.
    let k = answer.0 in
    let f = get_or fs k no_field in
    let g = get_or fs (k + 1) no_field in
    let back : is_lt (ordering_reverse (compare_symbols f.name g.name)) ≡ false = sym (ap is_lt (keys_total.antisymm g.name f.name)) ∙ up k no_field (omega arith) answer.1 in
    let tie : bytes_eq f.name g.name ≡ true = keys_tie f.name g.name ∙ tie_from_neither _ (answer.2 no_field) back in
    let e = get_or-map key fs k no_field [] (omega (arith, answer.1)) in
    let f = get_or-map key fs (k + 1) no_field [] answer.1 in
    let apart_here = apart_from_distinct bytes_eq (map key fs) k (k + 1) [] apart (omega arith) (omega (arith, answer.1, length-map fs key)) in
    true≢false (sym tie ∙ sym (λ i. bytes_eq (e i) (f i)) ∙ apart_here)
