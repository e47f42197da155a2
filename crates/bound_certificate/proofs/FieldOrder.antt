-- Fields in the order of their names: one more keeps the order, and the order leaves no choice.
use Rattle.std.proofs.Common.{◌≡◌, Bool, true, false, cond, List, [], ◌∷◌, map, Some, None, true≢false, refl, sym, ap, ◌∙◌, subst}
use Rattle.std.specs.Cmp.{IsTotalOrder}
use Rattle.std.specs.Cmp.Lexicographic.{nat_list_cmp_total, nat_list_eq_equiv, texts_ties, bytes_decides}
use Rattle.std.specs.List.{AllByRecursion}
use Rattle.std.specs.List.Sorted.{IsPermutation, IsStrictlySortedBy}
use Rattle.std.specs.Ordering.{eq_by_cmp, is_eq, is_lt, ordering_reverse}
use Rattle.std.specs.Str.{bytes_eq}
use Rattle.std.specs.declared.cmp.Ordering.{Ordering}
use Rattle.std.specs.declared.cmp.Ordering.TheVariants.{Less, Equal, Greater}
use Rattle.std.proofs.lemmas.List.Sorted.{IsPermutation-refl, IsPermutation-cons, IsPermutation-trans, IsPermutation-middle}
use Rattle.pr_value.specs.Symbols.{Symbol}
use Rattle.pr_value.specs.SymbolSets.{compare_symbols}
use Rattle.pr_value.specs.declared.value.Value.{Value}
use Rattle.bound_certificate.specs.Fields.{Field, Rise, field_value, with_field}

-- ---- names

abbrev pub key : Field → Symbol
key f = f.name

pub keys_total : IsTotalOrder compare_symbols
keys_total = nat_list_cmp_total

pub keys_tie : (x y : Symbol) → bytes_eq x y ≡ eq_by_cmp compare_symbols x y
keys_tie x y = texts_ties x y

pub same_keys : (x y : Symbol) → bytes_eq x y ≡ true → x ≡ y
same_keys x y e = (bytes_decides x y).0 e

pub same_itself : (x : Symbol) → bytes_eq x x ≡ true
same_itself x = (bytes_decides x x).1 refl

pub same_flip : (x y : Symbol) → bytes_eq x y ≡ bytes_eq y x
same_flip x y = nat_list_eq_equiv.symm x y

-- ---- one more row

pub with_field-moves : (f : Field) (fs : List Field) → IsPermutation (f ∷ fs) (with_field f fs)
with_field-moves f [] = IsPermutation-refl (f ∷ [])
with_field-moves f (g ∷ fs) = by_test (is_lt (compare_symbols f.name g.name)) (with_field-moves f fs) where
  by_test : (b : Bool) → IsPermutation (f ∷ fs) (with_field f fs) → IsPermutation (f ∷ g ∷ fs) (cond b (f ∷ g ∷ fs) (g ∷ with_field f fs))
  by_test true moved = IsPermutation-refl (f ∷ g ∷ fs)
  by_test false moved = IsPermutation-trans _ (g ∷ f ∷ fs) _ (IsPermutation-middle (f ∷ []) g fs) (IsPermutation-cons g _ _ moved)

abbrev pub IsBelow : Symbol → List Field → Type 0
IsBelow k fs = AllByRecursion (λ l. compare_symbols k l ≡ Less) (map key fs)

below-with_field : (k : Symbol) (f : Field) (fs : List Field) → compare_symbols k f.name ≡ Less → IsBelow k fs → IsBelow k (with_field f fs)
below-with_field k f [] less below = (less, tt)
below-with_field k f (g ∷ fs) less below = by_test (is_lt (compare_symbols f.name g.name)) (below-with_field k f fs less below.1) where
  by_test : (b : Bool) → IsBelow k (with_field f fs) → IsBelow k (cond b (f ∷ g ∷ fs) (g ∷ with_field f fs))
  by_test true later = (less, below)
  by_test false later = (below.0, later)

pub below-less : (j k : Symbol) (fs : List Field) → compare_symbols j k ≡ Less → IsBelow k fs → IsBelow j fs
below-less j k [] less below = tt
below-less j k (f ∷ fs) less below = (keys_total.trans j k f.name less below.0, below-less j k fs less below.1)

pub rise-with_field : (f : Field) (fs : List Field) → AllByRecursion (λ l. bytes_eq f.name l ≡ false) (map key fs) → Rise fs → Rise (with_field f fs)
unfolding IsStrictlySortedBy
rise-with_field f [] fresh rise = (tt, tt)
rise-with_field f (g ∷ fs) fresh rise = by_order (compare_symbols f.name g.name) refl (rise-with_field f fs fresh.1 rise.1) where
  by_order : (o : Ordering) → compare_symbols f.name g.name ≡ o → Rise (with_field f fs) → Rise (cond (is_lt o) (f ∷ g ∷ fs) (g ∷ with_field f fs))
  by_order Less e more = ((e, below-less f.name g.name fs e rise.0), rise)
  by_order Equal e more = absurd (true≢false (sym (ap is_eq e) ∙ sym (keys_tie f.name g.name) ∙ fresh.0))
  by_order Greater e more = (below-with_field g.name f fs (keys_total.antisymm g.name f.name ∙ ap ordering_reverse e) rise.0, more)

-- ---- fields that rise, by their values

below-none : (k : Symbol) (fs : List Field) → IsBelow k fs → field_value fs k ≡ None
below-none k [] below = refl
below-none k (f ∷ fs) below =
    let other : bytes_eq f.name k ≡ false = keys_tie f.name k ∙ ap is_eq (keys_total.antisymm f.name k ∙ ap ordering_reverse below.0) in
    ap (λ b. cond b (Some f.value) (field_value fs k)) other ∙ below-none k fs below.1

field_value-first : (f : Field) (fs : List Field) → field_value (f ∷ fs) f.name ≡ Some f.value
field_value-first f fs = ap (λ b. cond b (Some f.value) (field_value fs f.name)) (same_itself f.name)

none_some : (v : Value) → None ≡ Some v → ⊥
none_some v e = cc

some_same : (v w : Value) → Some v ≡ Some w → v ≡ w
some_same v w e = cc

-- the values behind equal first fields are the same
values_behind : (x y : Field) (xs ys : List Field) → x.name ≡ y.name → IsBelow x.name xs → IsBelow y.name ys → ((ks : Symbol) → field_value (x ∷ xs) ks ≡ field_value (y ∷ ys) ks) → (ks : Symbol) → field_value xs ks ≡ field_value ys ks
values_behind x y xs ys k below below' same ks = by_test (bytes_eq x.name ks) refl where
  by_test : (b : Bool) → bytes_eq x.name ks ≡ b → field_value xs ks ≡ field_value ys ks
  by_test true e =
      let here = same_keys x.name ks e in
      below-none ks xs (subst (λ l. IsBelow l xs) here below) ∙ sym (below-none ks ys (subst (λ l. IsBelow l ys) (sym k ∙ here) below'))
  by_test false e =
      sym (ap (λ b. cond b (Some x.value) (field_value xs ks)) e) ∙ same ks ∙ ap (λ b. cond b (Some y.value) (field_value ys ks)) (ap (λ l. bytes_eq l ks) (sym k) ∙ e)

pub same_fields : (xs ys : List Field) → Rise xs → Rise ys → ((ks : Symbol) → field_value xs ks ≡ field_value ys ks) → xs ≡ ys
unfolding IsStrictlySortedBy
same_fields [] [] up down same = refl
same_fields [] (y ∷ ys) up down same = absurd (none_some y.value (same y.name ∙ field_value-first y ys))
same_fields (x ∷ xs) [] up down same = absurd (none_some x.value (sym (same x.name) ∙ field_value-first x xs))
same_fields (x ∷ xs) (y ∷ ys) up down same = by_order (compare_symbols x.name y.name) refl (same_fields xs ys up.1 down.1) where
  by_order : (o : Ordering) → compare_symbols x.name y.name ≡ o → (((ks : Symbol) → field_value xs ks ≡ field_value ys ks) → xs ≡ ys) → x ∷ xs ≡ y ∷ ys
  by_order Less e rest = absurd (none_some x.value (sym (below-none x.name (y ∷ ys) (e, below-less x.name y.name ys e down.0)) ∙ sym (same x.name) ∙ field_value-first x xs))
  by_order Greater e rest =
      let less : compare_symbols y.name x.name ≡ Less = keys_total.antisymm y.name x.name ∙ ap ordering_reverse e in
      absurd (none_some y.value (sym (below-none y.name (x ∷ xs) (less, below-less y.name x.name xs less up.0)) ∙ same y.name ∙ field_value-first y ys))
  by_order Equal e rest =
      let k : x.name ≡ y.name = same_keys x.name y.name (keys_tie x.name y.name ∙ ap is_eq e) in
      let v : x.value ≡ y.value = some_same x.value y.value (sym (field_value-first x xs) ∙ same x.name ∙ ap (field_value (y ∷ ys)) k ∙ field_value-first y ys) in
      let tails = rest (values_behind x y xs ys k up.0 down.0 same) in
      λ i. record { name = k i; value = v i } ∷ tails i
