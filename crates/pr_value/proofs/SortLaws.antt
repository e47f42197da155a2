-- Sets from lists, and that a sorted list without its doubles is one.
use Rattle.std.proofs.Common.{◌≡◌, ℕ, true, false, cond, ◌||◌, List, [], ◌∷◌, ◌++◌, length, take, drop, refl, ap, sym, ◌∙◌, subst}
use Rattle.std.specs.Cmp.Derive.{both_true}
use Rattle.std.specs.Cmp.Lexicographic.{nat_list_cmp_total, texts_ties, bytes_decides}
use Rattle.std.specs.List.{dedup_from, dedup, refill}
use Rattle.std.specs.List.Retain.{IsFiltered, DiffersFromLast}
use Rattle.std.specs.List.Sorted.{IsPermutation, IsSorted, IsStrictlySortedBy}
use Rattle.std.specs.Ordering.{is_lt}
use Rattle.std.specs.Str.{bytes_eq}
use Rattle.std.proofs.Math.Seq.{take-append_seam}
use Rattle.std.proofs.lemmas.List.Filters.{dedup_is}
use Rattle.std.proofs.lemmas.List.Kept.{IsStrictlySortedBy-dedup}
use Rattle.std.proofs.lemmas.List.Sorted.{list_any-IsPermutation}
use Rattle.pr_value.specs.Symbols.{Symbol}
use Rattle.pr_value.specs.SymbolSets.{compare_symbols, ascends, contains, insert, set_of, union}
use Rattle.pr_value.proofs.MemberLaws.{or_twice, contains-set_of, contains-union, ascends-set_of, ascends-union, same_set}

-- a list that ascends is the set of its members
pub set_of-ascending : (ss : List Symbol) → ascends ss ≡ true → set_of ss ≡ ss
set_of-ascending ss up = same_set (set_of ss) ss (ascends-set_of ss) up (contains-set_of ss)

set_of-into : (ss ts : List Symbol) → set_of (ss ++ ts) ≡ union ss (set_of ts)
set_of-into [] ts = refl
set_of-into (s ∷ ss) ts = ap (insert s) (set_of-into ss ts)

pub union-set_of : (ss ts : List Symbol) → ascends ts ≡ true → union ss ts ≡ set_of (ss ++ ts)
union-set_of ss ts up = sym (set_of-into ss ts ∙ ap (union ss) (set_of-ascending ts up))

pub set_of-append : (ss ts : List Symbol) → set_of (ss ++ ts) ≡ union (set_of ss) (set_of ts)
set_of-append ss ts =
    set_of-into ss ts
    ∙ same_set (union ss (set_of ts)) (union (set_of ss) (set_of ts)) (ascends-union ss (set_of ts) (ascends-set_of ts)) (ascends-union (set_of ss) (set_of ts) (ascends-set_of ts))
    (λ u. contains-union ss (set_of ts) u ∙ (ap (λ b. b || contains (set_of ts) u) (sym (contains-set_of ss u)) ∙ sym (contains-union (set_of ss) (set_of ts) u)))

-- ---- as the code makes one

contains-dedup_from : (k : Symbol) (ss : List Symbol) (u : Symbol) → contains (dedup_from bytes_eq k ss) u ≡ (bytes_eq u k || contains ss u)
contains-dedup_from k [] u = refl
contains-dedup_from k (s ∷ ss) u =
    elim (bytes_eq s k) as (λ b. bytes_eq s k ≡ b → contains (cond b (dedup_from bytes_eq k ss) (k ∷ dedup_from bytes_eq s ss)) u ≡ (bytes_eq u k || (bytes_eq u s || contains ss u))) [
      | true ↦ λ e.
          contains-dedup_from k ss u
          ∙ subst (λ v. (bytes_eq u k || contains ss u) ≡ (bytes_eq u k || (bytes_eq u v || contains ss u))) (sym ((bytes_decides s k).0 e)) (or_twice (bytes_eq u k) (contains ss u))
      | false ↦ λ e. ap (λ b. bytes_eq u k || b) (contains-dedup_from s ss u)
    ] refl

contains-dedup : (ss : List Symbol) (u : Symbol) → contains (dedup bytes_eq ss) u ≡ contains ss u
contains-dedup [] u = refl
contains-dedup (s ∷ ss) u = contains-dedup_from s ss u

ascends-strictly : (ss : List Symbol) → IsStrictlySortedBy compare_symbols ss → ascends ss ≡ true
unfolding IsStrictlySortedBy
ascends-strictly [] up = refl
ascends-strictly (s ∷ []) up = refl
ascends-strictly (s ∷ t ∷ ss) up = both_true (ap is_lt up.0.0) (ascends-strictly (t ∷ ss) up.1)

ascends-dedup : (ss : List Symbol) → IsSorted compare_symbols ss → ascends (dedup bytes_eq ss) ≡ true
ascends-dedup ss sorted = ascends-strictly _ (IsStrictlySortedBy-dedup nat_list_cmp_total texts_ties ss sorted)

set_of-deduped : (ss ts us : List Symbol) → IsPermutation ss ts → IsSorted compare_symbols ts → IsFiltered (DiffersFromLast bytes_eq) [] ts us → us ≡ set_of ss
set_of-deduped ss ts us moved sorted kept =
    dedup_is bytes_eq ts us kept
    ∙ same_set (dedup bytes_eq ts) (set_of ss) (ascends-dedup ts sorted) (ascends-set_of ss)
    (λ u. contains-dedup ts u ∙ (sym (list_any-IsPermutation (bytes_eq u) ss ts moved) ∙ sym (contains-set_of ss u)))

refill-whole : (n : ℕ) (ss ts : List Symbol) → n ≡ length ts → refill n ss ts ≡ ts
refill-whole n ss ts e = ap (λ k. take k (ts ++ drop (length ts) ss)) e ∙ take-append_seam ts _

-- a vector whose slice is sorted, and then without doubles
pub set_of-sorted : (ss slice ts us : List Symbol) (n : ℕ) → slice ≡ ss → n ≡ length ss → length ts ≡ length slice → IsPermutation slice ts → IsSorted compare_symbols ts → IsFiltered (DiffersFromLast bytes_eq) [] (refill n ss ts) us
    → us ≡ set_of ss
set_of-sorted ss slice ts us n same long as_long moved sorted kept =
    let filtered : IsFiltered (DiffersFromLast bytes_eq) [] ts us =
    subst (λ vs. IsFiltered (DiffersFromLast bytes_eq) [] vs us) (refill-whole n ss ts (long ∙ (ap length (sym same) ∙ sym as_long))) kept
    in
    set_of-deduped slice ts us moved sorted filtered ∙ ap set_of same
