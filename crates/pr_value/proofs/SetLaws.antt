-- Lists of symbols that ascend, and what an insertion and a filter make of them.
use Rattle.std.proofs.Common.{◌≡◌, ℕ, ◌≤◌, Bool, true, false, cond, ◌||◌, length, take, drop, List, [], ◌∷◌, ◌++◌, refl, ap, sym, ◌∙◌}
use Rattle.std.specs.declared.cmp.Ordering.TheVariants.{Less, Equal, Greater}
use Rattle.std.specs.Cmp.{first_so, second_so}
use Rattle.std.specs.Cmp.Derive.{both_true}
use Rattle.std.specs.Ordering.{is_lt, match_ordering}
use Rattle.std.specs.List.{filter}
use Rattle.std.proofs.lemmas.Bool.{false≢true}
use Rattle.std.proofs.lemmas.List.{take_all}
use Rattle.pr_value.specs.Symbols.{Symbol}
use Rattle.pr_value.specs.SymbolSets.{compare_symbols, is_before, ascends, contains, insert}
use Rattle.pr_value.proofs.OrderLaws.{compare_symbols-reversed, compare_symbols-before, before_trans, bytes_eq-compare_symbols}

-- the first is before the second, and the rest ascends
pub ascends-first : (s t : Symbol) (ss : List Symbol) → ascends (s ∷ t ∷ ss) ≡ true → is_before s t ≡ true
ascends-first s t ss up = first_so _ _ up

pub ascends-rest : (s : Symbol) (ss : List Symbol) → ascends (s ∷ ss) ≡ true → ascends ss ≡ true
ascends-rest s [] up = refl
ascends-rest s (t ∷ ss) up = second_so _ _ up

pub ascends-skip : (s t : Symbol) (ss : List Symbol) → ascends (s ∷ t ∷ ss) ≡ true → ascends (s ∷ ss) ≡ true
ascends-skip s t [] up = refl
ascends-skip s t (u ∷ ss) up =
    both_true (before_trans s t u (ascends-first s t (u ∷ ss) up) (ascends-first t u ss (ascends-rest s (t ∷ u ∷ ss) up))) (ascends-rest t (u ∷ ss) (ascends-rest s (t ∷ u ∷ ss) up))

-- ---- insertion

insert-below : (t s : Symbol) (ts : List Symbol) → is_before t s ≡ true → ascends (t ∷ ts) ≡ true → ascends (t ∷ insert s ts) ≡ true
insert-below t s [] under up = both_true under refl
insert-below t s (u ∷ us) under up =
    elim (compare_symbols s u) as (λ o. compare_symbols s u ≡ o → ascends (t ∷ match_ordering o (s ∷ u ∷ us) (u ∷ us) (u ∷ insert s us)) ≡ true) [
      | Less ↦ λ e. both_true under (both_true (ap is_lt e) (ascends-rest t (u ∷ us) up))
      | Equal ↦ λ e. up
      | Greater ↦ λ e. both_true (ascends-first t u us up) (insert-below u s us (ap is_lt (compare_symbols-reversed s u Greater e)) (ascends-rest t (u ∷ us) up))
    ] refl

pub ascends-insert : (s : Symbol) (ss : List Symbol) → ascends ss ≡ true → ascends (insert s ss) ≡ true
ascends-insert s [] up = refl
ascends-insert s (t ∷ ts) up =
    elim (compare_symbols s t) as (λ o. compare_symbols s t ≡ o → ascends (match_ordering o (s ∷ t ∷ ts) (t ∷ ts) (t ∷ insert s ts)) ≡ true) [
      | Less ↦ λ e. both_true (ap is_lt e) up
      | Equal ↦ λ e. up
      | Greater ↦ λ e. insert-below t s ts (ap is_lt (compare_symbols-reversed s t Greater e)) up
    ] refl

-- a symbol before the first member is no member
pub contains-before : (s t : Symbol) (ts : List Symbol) → is_before s t ≡ true → ascends (t ∷ ts) ≡ true → contains (t ∷ ts) s ≡ false
contains-before s t [] under up = ap (λ b. b || false) (bytes_eq-compare_symbols s t Greater (compare_symbols-reversed s t Less (compare_symbols-before s t under)))
contains-before s t (u ∷ us) under up =
    ap (λ b. b || contains (u ∷ us) s) (bytes_eq-compare_symbols s t Greater (compare_symbols-reversed s t Less (compare_symbols-before s t under)))
    ∙ contains-before s u us (before_trans s t u under (ascends-first t u us up)) (ascends-rest t (u ∷ us) up)

-- a member changes nothing
pub insert-member : (s : Symbol) (ss : List Symbol) → ascends ss ≡ true → contains ss s ≡ true → insert s ss ≡ ss
insert-member s [] up found = absurd (false≢true found)
insert-member s (t ∷ ts) up found =
    elim (compare_symbols s t) as (λ o. compare_symbols s t ≡ o → match_ordering o (s ∷ t ∷ ts) (t ∷ ts) (t ∷ insert s ts) ≡ t ∷ ts) [
      | Less ↦ λ e. absurd (false≢true (sym (contains-before s t ts (ap is_lt e) up) ∙ found))
      | Equal ↦ λ e. refl
      | Greater ↦ λ e. ap (λ us. t ∷ us) (insert-member s ts (ascends-rest t ts up) (sym (ap (λ b. b || contains ts s) (bytes_eq-compare_symbols s t Less (compare_symbols-reversed s t Greater e))) ∙ found))
    ] refl

-- ---- filter

filter-below : (p : Symbol → Bool) (s : Symbol) (ss : List Symbol) → ascends (s ∷ ss) ≡ true → ascends (s ∷ filter p ss) ≡ true
filter-below p s [] up = refl
filter-below p s (t ∷ ss) up =
    elim (p t) as (λ b. ascends (s ∷ cond b (t ∷ filter p ss) (filter p ss)) ≡ true) [
      | true ↦ both_true (ascends-first s t ss up) (filter-below p t ss (ascends-rest s (t ∷ ss) up))
      | false ↦ filter-below p s ss (ascends-skip s t ss up)
    ]

pub ascends-filter : (p : Symbol → Bool) (ss : List Symbol) → ascends ss ≡ true → ascends (filter p ss) ≡ true
ascends-filter p [] up = refl
ascends-filter p (s ∷ ss) up =
    elim (p s) as (λ b. ascends (cond b (s ∷ filter p ss) (filter p ss)) ≡ true) [
      | true ↦ filter-below p s ss up
      | false ↦ ascends-filter p ss (ascends-rest s ss up)
    ]

-- ---- as the code meets them

-- the symbol has gone in at its place, or nothing has changed
pub ascends-inserted : (ss new : List Symbol) (s : Symbol) (i : ℕ) (b : Bool) → ascends ss ≡ true → insert s ss ≡ take i ss ++ s ∷ drop i ss → new ≡ cond b (take i ss ++ s ∷ drop i ss) ss → ascends new ≡ true
ascends-inserted ss new s i true up at is = ap ascends (is ∙ sym at) ∙ ascends-insert s ss up
ascends-inserted ss new s i false up at is = ap ascends is ∙ up

pub ascends-filtered : (p : Symbol → Bool) (ss kept : List Symbol) (n : ℕ) → ascends ss ≡ true → length ss ≤ n → kept ≡ filter p (take n ss) → ascends kept ≡ true
ascends-filtered p ss kept n up all is = ap ascends (is ∙ ap (filter p) (take_all n ss all)) ∙ ascends-filter p ss up

pub ruleset set_laws = (ascends-inserted, ascends-filtered, insert-member)
