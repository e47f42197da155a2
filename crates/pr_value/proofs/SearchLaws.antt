-- What a binary search finds in symbols that ascend.
use Rattle.std.proofs.Common.{◌≡◌, ℕ, zero, suc, ◌<◌, ◌≤◌, true, false, List, [], ◌∷◌, ◌++◌, length, slice_get, get_or, take, drop, Some, Result, Ok, Err, IfOk, IfErr, inl, inr, refl, ap, sym, ◌∙◌, add-one, arith}
use Rattle.std.specs.declared.cmp.Ordering.TheVariants.{Less, Equal, Greater}
use Rattle.std.specs.Cmp.Lexicographic.{nat_list_cmp_total}
use Rattle.std.specs.List.{HoldsAt, list_any}
use Rattle.std.specs.List.Sorted.{IsNonDecreasingBy, IsPartitionPoint, IsBinarySearchResult, IsSearchInRange}
use Rattle.std.specs.Ordering.{ordering_index, match_ordering}
use Rattle.std.specs.Str.{bytes_eq}
use Rattle.std.proofs.lemmas.List.Folds.{list_any_at}
use Rattle.std.proofs.lemmas.List.Recursion.{or_from_places}
use Rattle.std.proofs.lemmas.List.Sorted.{searchable_from_sorted}
use Rattle.std.proofs.lemmas.Option.{slice_get_read}
use Rattle.std.proofs.lemmas.Bool.{cases_lt}
use Rattle.pr_value.specs.Symbols.{Symbol}
use Rattle.pr_value.specs.SymbolSets.{compare_symbols, is_before, ascends, contains, insert}
use Rattle.pr_value.proofs.OrderLaws.{compare_symbols-reversed, same_from_compare_symbols, bytes_eq-compare_symbols, not_after}
use Rattle.pr_value.proofs.SetLaws.{ascends-first, ascends-rest}

in_order : (ss : List Symbol) (k : ℕ) (d : Symbol) → ascends ss ≡ true → suc k < length ss → is_before (get_or ss (suc k) d) (get_or ss k d) ≡ false
in_order [] k d up within = absurd (omega (arith, within))
in_order (s ∷ []) k d up within = absurd (omega (arith, within))
in_order (s ∷ t ∷ ss) zero d up within = not_after s t (ascends-first s t ss up)
in_order (s ∷ t ∷ ss) (suc k) d up within = in_order (t ∷ ss) k d (ascends-rest s (t ∷ ss) up) (omega (arith, within))

-- so that a binary search may be made
pub rising : (ss : List Symbol) (s : Symbol) → ascends ss ≡ true → IsNonDecreasingBy (λ y. ordering_index (compare_symbols y s)) ss
rising ss s up =
    searchable_from_sorted nat_list_cmp_total (λ x. x) ss s (λ k d _ within. rw add-one (in_order ss k d up (omega (arith, within))))

pub contains_at : (ss : List Symbol) (s : Symbol) (i : ℕ) → i < length ss → HoldsAt (λ y. compare_symbols y s ≡ Equal) ss i → contains ss s ≡ true
contains_at ss s i within found = list_any_at (bytes_eq s) ss i s within (bytes_eq-compare_symbols s (get_or ss i s) Equal (found s))

-- no member stands between those before and those behind
pub contains_nowhere : (ss : List Symbol) (s : Symbol) (i : ℕ) → IsPartitionPoint (λ y. compare_symbols y s ≡ Less) (λ y. compare_symbols y s ≡ Greater) ss i → contains ss s ≡ false
contains_nowhere ss s i parts =
    or_from_places (list_any (bytes_eq s)) (bytes_eq s) refl (λ _ _. refl) ss s
    (λ k within. elim (cases_lt k i) [
      | inl below ↦ bytes_eq-compare_symbols s (get_or ss k s) Less (parts.0 k s (omega arith) below)
      | inr behind ↦ bytes_eq-compare_symbols s (get_or ss k s) Greater (parts.1 k s behind within)
    ])

-- and there it goes in
pub insert_at : (ss : List Symbol) (s : Symbol) (i : ℕ) → i ≤ length ss → IsPartitionPoint (λ y. compare_symbols y s ≡ Less) (λ y. compare_symbols y s ≡ Greater) ss i → insert s ss ≡ take i ss ++ s ∷ drop i ss
insert_at [] s zero within parts = refl
insert_at [] s (suc i) within parts = absurd (omega (arith, within))
insert_at (t ∷ ts) s zero within parts =
    let above : compare_symbols s t ≡ Less = compare_symbols-reversed t s Greater (parts.1 0 s (omega arith) (omega arith)) in
    ap (λ o. match_ordering o (s ∷ t ∷ ts) (t ∷ ts) (t ∷ insert s ts)) above
insert_at (t ∷ ts) s (suc i) within parts =
    let below : compare_symbols s t ≡ Greater = compare_symbols-reversed t s Less (parts.0 0 s (omega arith) (omega arith)) in
    ap (λ o. match_ordering o (s ∷ t ∷ ts) (t ∷ ts) (t ∷ insert s ts)) below
    ∙ ap (λ us. t ∷ us) (insert_at ts s i (omega (arith, within)) (λ k d from to. parts.0 (suc k) d (omega arith) (omega (arith, to)), λ k d from to. parts.1 (suc k) d (omega (arith, from)) (omega (arith, to))))

-- the symbol stands where one is that compares equal
stands_at : (ss : List Symbol) (s : Symbol) (i : ℕ) → i < length ss → HoldsAt (λ y. compare_symbols y s ≡ Equal) ss i → slice_get ss i ≡ Some s
stands_at ss s i within found = slice_get_read ss (length ss) i s refl within (sym (same_from_compare_symbols (get_or ss i s) s (found s)))

-- the same, of what a search answers
pub found : (ss : List Symbol) (s : Symbol) (r : Result ℕ ℕ) → IsSearchInRange r (length ss) → IsBinarySearchResult (λ y. compare_symbols y s) ss r → IfOk r (λ i. slice_get ss i ≡ Some s)
found ss s (Ok i) within at = stands_at ss s i within at
found ss s (Err i) within at = tt

pub contained : (ss : List Symbol) (s : Symbol) (r : Result ℕ ℕ) → IsSearchInRange r (length ss) → IsBinarySearchResult (λ y. compare_symbols y s) ss r → IfOk r (λ _. contains ss s ≡ true)
contained ss s (Ok i) within at = contains_at ss s i within at
contained ss s (Err i) within at = tt

pub missing : (ss : List Symbol) (s : Symbol) (r : Result ℕ ℕ) → ascends ss ≡ true → IsSearchInRange r (length ss) → IsBinarySearchResult (λ y. compare_symbols y s) ss r
    → IfErr r (λ i. (i ≤ length ss) × (contains ss s ≡ false) × (insert s ss ≡ take i ss ++ s ∷ drop i ss))
missing ss s (Ok i) up within at = tt
missing ss s (Err i) up within at =
    let parts = at (rising ss s up) in
    (within, contains_nowhere ss s i parts, insert_at ss s i within parts)
