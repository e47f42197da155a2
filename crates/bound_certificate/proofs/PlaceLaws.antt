-- The places of symbols among symbols that ascend.
use Rattle.std.proofs.Common.{◌≡◌, ℕ, zero, suc, Bool, true, false, cond, not, ◌||◌, List, [], ◌∷◌, length, slice_get, Some, refl, ap, sym, ◌∙◌}
use Rattle.std.proofs.lemmas.Bool.{false≢true}
use Rattle.std.specs.Cmp.Derive.{both_true}
use Rattle.std.specs.Cmp.Lexicographic.{bytes_decides, nat_list_eq_equiv}
use Rattle.std.specs.List.{AllByRecursion, flat_map}
use Rattle.std.specs.Str.{bytes_eq}
use Rattle.pr_value.specs.Repeats.{are_distinct}
use Rattle.pr_value.specs.Symbols.{Symbol}
use Rattle.pr_value.specs.SymbolSets.{ascends, contains, set_of}
use Rattle.pr_value.proofs.MemberLaws.{ascends-set_of, contains-set_of, same_set}
use Rattle.pr_value.proofs.SetLaws.{ascends-first, ascends-rest, contains-before}
use Rattle.bound_certificate.specs.Written.{place_of}

-- the first is none of the rest
lacks_first : (s : Symbol) (ss : List Symbol) → ascends (s ∷ ss) ≡ true → contains ss s ≡ false
lacks_first s [] up = refl
lacks_first s (t ∷ ss) up = contains-before s t ss (ascends-first s t ss up) (ascends-rest s (t ∷ ss) up)

contains-slice_get : (ss : List Symbol) (i : ℕ) (s : Symbol) → slice_get ss i ≡ Some s → contains ss s ≡ true
contains-slice_get [] i s e = cc
contains-slice_get (t ∷ ss) zero s e =
    let same : t ≡ s = cc in
    ap (λ b. b || contains ss s) ((bytes_decides s t).1 (sym same))
contains-slice_get (t ∷ ss) (suc i) s e = or_true (bytes_eq s t) (contains ss s) (contains-slice_get ss i s e) where
  or_true : (a b : Bool) → b ≡ true → (a || b) ≡ true
  or_true true b is = refl
  or_true false b is = is

-- a symbol is at its place
pub place_of-found : (ss : List Symbol) (s : Symbol) (i : ℕ) → ascends ss ≡ true → slice_get ss i ≡ Some s → place_of ss s ≡ i
place_of-found [] s i up e = cc
place_of-found (t ∷ ss) s zero up e =
    let same : t ≡ s = cc in
    ap (λ b. cond b zero (suc (place_of ss s))) ((bytes_decides t s).1 same)
place_of-found (t ∷ ss) s (suc i) up e = by_test (bytes_eq t s) refl (place_of-found ss s i (ascends-rest t ss up) e) where
  by_test : (b : Bool) → bytes_eq t s ≡ b → place_of ss s ≡ i → cond b zero (suc (place_of ss s)) ≡ suc i
  by_test true is later =
      absurd (false≢true (sym (lacks_first t ss up) ∙ (ap (contains ss) ((bytes_decides t s).0 is) ∙ contains-slice_get ss i s e)))
  by_test false is later = ap suc later

-- no symbol is there
pub place_of-missing : (ss : List Symbol) (s : Symbol) → contains ss s ≡ false → place_of ss s ≡ length ss
place_of-missing [] s e = refl
place_of-missing (t ∷ ss) s e = by_test (bytes_eq s t) (nat_list_eq_equiv.symm t s) e (place_of-missing ss s) where
  by_test : (b : Bool) → bytes_eq t s ≡ b → (b || contains ss s) ≡ false → (contains ss s ≡ false → place_of ss s ≡ length ss) → cond (bytes_eq t s) zero (suc (place_of ss s)) ≡ suc (length ss)
  by_test true is none later = absurd (false≢true (sym none))
  by_test false is none later = ap (λ b. cond b zero (suc (place_of ss s))) is ∙ ap suc (later none)

-- the symbol at the place of one that is there
pub slice_get-place_of : (ss : List Symbol) (s : Symbol) → contains ss s ≡ true → slice_get ss (place_of ss s) ≡ Some s
slice_get-place_of [] s e = absurd (false≢true e)
slice_get-place_of (t ∷ ss) s e = by_test (bytes_eq s t) (nat_list_eq_equiv.symm t s) e (slice_get-place_of ss s) where
  by_test : (b : Bool) → bytes_eq t s ≡ b → (b || contains ss s) ≡ true → (contains ss s ≡ true → slice_get ss (place_of ss s) ≡ Some s) → slice_get (t ∷ ss) (cond (bytes_eq t s) zero (suc (place_of ss s))) ≡ Some s
  by_test true is some later = ap (λ b. slice_get (t ∷ ss) (cond b zero (suc (place_of ss s)))) is ∙ ap (λ u. Some u) ((bytes_decides t s).0 is)
  by_test false is some later = ap (λ b. slice_get (t ∷ ss) (cond b zero (suc (place_of ss s)))) is ∙ later some

-- symbols that ascend are distinct, and are their own set
pub distinct-ascends : (ss : List Symbol) → ascends ss ≡ true → are_distinct ss ≡ true
distinct-ascends [] up = refl
distinct-ascends (s ∷ ss) up = both_true (ap not (lacks_first s ss up)) (distinct-ascends ss (ascends-rest s ss up))

pub set_of-ascends : (ss : List Symbol) → ascends ss ≡ true → set_of ss ≡ ss
set_of-ascends ss up = same_set (set_of ss) ss (ascends-set_of ss) up (contains-set_of ss)

-- each symbol of a list is one of its set
abbrev pub In : List Symbol → Symbol → Type 0
In ss s = contains ss s ≡ true

in_later : (t : Symbol) (all ss : List Symbol) → AllByRecursion (In all) ss → AllByRecursion (In (t ∷ all)) ss
in_later t all [] each = tt
in_later t all (s ∷ ss) each = (or_true (bytes_eq s t) (contains all s) each.0, in_later t all ss each.1) where
  or_true : (a b : Bool) → b ≡ true → (a || b) ≡ true
  or_true true b is = refl
  or_true false b is = is

all_in : (ss : List Symbol) → AllByRecursion (In ss) ss
all_in [] = tt
all_in (s ∷ ss) = (ap (λ b. b || contains ss s) ((bytes_decides s s).1 refl), in_later s ss ss (all_in ss))

in_set : (all ss : List Symbol) → AllByRecursion (In all) ss → AllByRecursion (In (set_of all)) ss
in_set all [] each = tt
in_set all (s ∷ ss) each = (contains-set_of all s ∙ each.0, in_set all ss each.1)

pub all_in_set : (ss : List Symbol) → AllByRecursion (In (set_of ss)) ss
all_in_set ss = in_set ss ss (all_in ss)

-- each symbol of the set of a list is one of the list
pub all_of_set : (ss : List Symbol) → AllByRecursion (In ss) (set_of ss)
all_of_set ss = told (set_of ss) (all_in (set_of ss)) where
  told : (ts : List Symbol) → AllByRecursion (In (set_of ss)) ts → AllByRecursion (In ss) ts
  told [] all = tt
  told (t ∷ ts) all = (sym (contains-set_of ss t) ∙ all.0, told ts all.1)

pub flat_map-one : (ss : List Symbol) → flat_map (λ s. s ∷ []) ss ≡ ss
flat_map-one [] = refl
flat_map-one (s ∷ ss) = ap (λ ts. s ∷ ts) (flat_map-one ss)
