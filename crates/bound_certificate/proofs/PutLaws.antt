-- Where a field is put among fields in the order of their names.
use Rattle.std.proofs.Common.{◌≡◌, ℕ, zero, suc, ◌<◌, ◌≤◌, List, [], ◌∷◌, ◌++◌, length, get_or, slice_set, take, drop, Result, Ok, Err, IfOk, IfErr, refl, ap, sym, ◌∙◌, subst, add-one, arith}
use Rattle.std.specs.declared.cmp.Ordering.{Ordering}
use Rattle.std.specs.declared.cmp.Ordering.TheVariants.{Less, Equal, Greater}
use Rattle.std.specs.List.{HoldsAt}
use Rattle.std.specs.List.Sorted.{IsStrictlySortedBy, IsSortedBy, IsPartitionPoint, IsBinarySearchResult, IsSearchInRange}
use Rattle.std.specs.Ordering.{is_eq, is_lt, match_ordering, ordering_reverse}
use Rattle.std.proofs.lemmas.List.Sorted.{searchable_from_sorted}
use Rattle.pr_value.specs.Symbols.{Symbol}
use Rattle.pr_value.specs.SymbolSets.{compare_symbols}
use Rattle.bound_certificate.specs.Fields.{Field, Rise, put_field}
use Rattle.bound_certificate.proofs.FieldOrder.{IsBelow, below-less, key, keys_tie, keys_total, same_keys}

below-at : (k : Symbol) (fs : List Field) (i : ℕ) (d : Field) → IsBelow k fs → i < length fs → compare_symbols k (key (get_or fs i d)) ≡ Less
below-at k [] i d below within = absurd (omega (arith, within))
below-at k (f ∷ fs) zero d below within = below.0
below-at k (f ∷ fs) (suc i) d below within = below-at k fs i d below.1 (omega (arith, within))

below-put_field : (k : Symbol) (f : Field) (fs : List Field) → compare_symbols k f.name ≡ Less → IsBelow k fs → IsBelow k (put_field f fs)
below-put_field k f [] less below = (less, tt)
below-put_field k f (g ∷ fs) less below = by_order (compare_symbols f.name g.name) (below-put_field k f fs less below.1) where
  by_order : (o : Ordering) → IsBelow k (put_field f fs) → IsBelow k (match_ordering o (f ∷ g ∷ fs) (f ∷ fs) (g ∷ put_field f fs))
  by_order Less later = (less, below)
  by_order Equal later = (less, below.1)
  by_order Greater later = (below.0, later)

-- the names still ascend
rise-put_field : (f : Field) (fs : List Field) → Rise fs → Rise (put_field f fs)
unfolding IsStrictlySortedBy
rise-put_field f [] rise = (tt, tt)
rise-put_field f (g ∷ fs) rise = by_order (compare_symbols f.name g.name) refl (rise-put_field f fs rise.1) where
  by_order : (o : Ordering) → compare_symbols f.name g.name ≡ o → Rise (put_field f fs) → Rise (match_ordering o (f ∷ g ∷ fs) (f ∷ fs) (g ∷ put_field f fs))
  by_order Less e more = ((e, below-less f.name g.name fs e rise.0), rise)
  by_order Equal e more =
      let same : f.name ≡ g.name = same_keys f.name g.name (keys_tie f.name g.name ∙ ap is_eq e) in
      (subst (λ k. IsBelow k fs) (sym same) rise.0, rise.1)
  by_order Greater e more = (below-put_field g.name f fs (keys_total.antisymm g.name f.name ∙ ap ordering_reverse e) rise.0, more)

pub rise_none : Rise []
unfolding IsStrictlySortedBy
rise_none = tt

-- the same of what the fields came to
pub rise_put : (f : Field) (fs gs : List Field) → put_field f fs ≡ gs → Rise fs → Rise gs
rise_put f fs gs is rise = subst Rise is (rise-put_field f fs rise)

put_there : (f g : Field) (fs : List Field) (o : Ordering) → compare_symbols f.name g.name ≡ o → put_field f (g ∷ fs) ≡ match_ordering o (f ∷ g ∷ fs) (f ∷ fs) (g ∷ put_field f fs)
put_there f g fs o e = ap (λ p. match_ordering p (f ∷ g ∷ fs) (f ∷ fs) (g ∷ put_field f fs)) e

turned : (f g : Field) (o : Ordering) → compare_symbols g.name f.name ≡ o → compare_symbols f.name g.name ≡ ordering_reverse o
turned f g o e = keys_total.antisymm f.name g.name ∙ ap ordering_reverse e

-- between those before and those behind
put_at : (fs : List Field) (f : Field) (i : ℕ) → i ≤ length fs → IsPartitionPoint (λ y. compare_symbols (key y) f.name ≡ Less) (λ y. compare_symbols (key y) f.name ≡ Greater) fs i → put_field f fs ≡ take i fs ++ f ∷ drop i fs
put_at [] f zero within parts = refl
put_at [] f (suc i) within parts = absurd (omega (arith, within))
put_at (g ∷ fs) f zero within parts = put_there f g fs Less (turned f g Greater (parts.1 0 f (omega arith) (omega arith)))
put_at (g ∷ fs) f (suc i) within parts =
    put_there f g fs Greater (turned f g Less (parts.0 0 f (omega arith) (omega arith)))
    ∙ ap (λ gs. g ∷ gs) (put_at fs f i (omega (arith, within)) (λ k d from to. parts.0 (suc k) d (omega arith) (omega (arith, to)), λ k d from to. parts.1 (suc k) d (omega (arith, from)) (omega (arith, to))))

-- in the place of the one of its name
put_over : (fs : List Field) (f : Field) (i : ℕ) → Rise fs → i < length fs → HoldsAt (λ y. compare_symbols (key y) f.name ≡ Equal) fs i → put_field f fs ≡ slice_set fs i f
unfolding IsStrictlySortedBy
put_over [] f i rise within at = absurd (omega (arith, within))
put_over (g ∷ fs) f zero rise within at = put_there f g fs Equal (turned f g Equal (at f))
put_over (g ∷ fs) f (suc i) rise within at =
    let same : key (get_or fs i f) ≡ f.name = same_keys (key (get_or fs i f)) f.name (keys_tie (key (get_or fs i f)) f.name ∙ ap is_eq (at f)) in
    let low : compare_symbols g.name f.name ≡ Less = sym (ap (compare_symbols g.name) same) ∙ below-at g.name fs i f rise.0 (omega (arith, within)) in
    put_there f g fs Greater (turned f g Less low) ∙ ap (λ gs. g ∷ gs) (put_over fs f i rise.1 (omega (arith, within)) (λ d. at d))

rising_at : (g : Field) (fs : List Field) (k : ℕ) (d : Field) → Rise (g ∷ fs) → k < length fs → compare_symbols (key (get_or (g ∷ fs) k d)) (key (get_or fs k d)) ≡ Less
unfolding IsStrictlySortedBy
rising_at g [] k d rise within = absurd (omega (arith, within))
rising_at g (f ∷ fs) zero d rise within = rise.0.0
rising_at g (f ∷ fs) (suc k) d rise within = rising_at f fs k d rise.1 (omega (arith, within))

sorted_from_rise : (fs : List Field) → Rise fs → IsSortedBy (λ x y. is_lt (compare_symbols (key x) (key y))) fs
sorted_from_rise [] rise = λ k d from to. absurd (omega (arith, to))
sorted_from_rise (g ∷ fs) rise = λ k d from to.
    rw add-one (ap is_lt (keys_total.antisymm (key (get_or fs k d)) (key (get_or (g ∷ fs) k d)) ∙ ap ordering_reverse (rising_at g fs k d rise (omega (arith, to)))))

-- what a search for the name answers, whatever the value
pub put_found : (fs : List Field) (k : Symbol) (r : Result ℕ ℕ) → Rise fs → IsSearchInRange r (length fs) → IsBinarySearchResult (λ y. compare_symbols (key y) k) fs r
    → IfOk r (λ i. (f : Field) → f.name ≡ k → put_field f fs ≡ slice_set fs i f)
put_found fs k (Ok i) rise within at = λ f is. put_over fs f i rise within (subst (λ l. HoldsAt (λ y. compare_symbols (key y) l ≡ Equal) fs i) (sym is) at)
put_found fs k (Err i) rise within at = tt

pub put_missing : (fs : List Field) (k : Symbol) (r : Result ℕ ℕ) → Rise fs → IsSearchInRange r (length fs) → IsBinarySearchResult (λ y. compare_symbols (key y) k) fs r
    → IfErr r (λ i. (f : Field) → f.name ≡ k → put_field f fs ≡ take i fs ++ f ∷ drop i fs)
put_missing fs k (Ok i) rise within at = tt
put_missing fs k (Err i) rise within at = λ f is.
    put_at fs f i within (subst (λ l. IsPartitionPoint (λ y. compare_symbols (key y) l ≡ Less) (λ y. compare_symbols (key y) l ≡ Greater) fs i) (sym is) (at (searchable_from_sorted keys_total key fs k (sorted_from_rise fs rise))))
