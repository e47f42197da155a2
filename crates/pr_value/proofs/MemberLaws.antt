-- The members of sets that are made of others.
use Rattle.std.proofs.Common.{◌≡◌, Bool, true, false, cond, not, ◌&&◌, ◌||◌, List, [], ◌∷◌, refl, ap, sym, ◌∙◌, subst}
use Rattle.std.specs.declared.cmp.Ordering.TheVariants.{Less, Equal, Greater}
use Rattle.std.specs.Ordering.{is_lt, match_ordering}
use Rattle.std.specs.List.{filter}
use Rattle.std.specs.Cmp.Lexicographic.{bytes_decides}
use Rattle.std.specs.Str.{bytes_eq}
use Rattle.pr_value.specs.Symbols.{Symbol}
use Rattle.pr_value.specs.SymbolSets.{compare_symbols, ascends, contains, insert, set_of, union, meet, minus}
use Rattle.std.proofs.lemmas.Bool.{false≢true}
use Rattle.pr_value.proofs.OrderLaws.{compare_symbols-reversed, same_from_compare_symbols}
use Rattle.pr_value.proofs.SetLaws.{ascends-first, ascends-rest, ascends-insert, contains-before}

pub or_swap : (p q r : Bool) → (p || (q || r)) ≡ (q || (p || r))
or_swap true true r = refl
or_swap true false r = refl
or_swap false q r = refl

pub or_assoc : (p q r : Bool) → (p || (q || r)) ≡ ((p || q) || r)
or_assoc true q r = refl
or_assoc false q r = refl

pub or_twice : (p q : Bool) → (p || q) ≡ (p || (p || q))
or_twice true q = refl
or_twice false q = refl

pub contains-insert : (s : Symbol) (ss : List Symbol) (u : Symbol) → contains (insert s ss) u ≡ (bytes_eq u s || contains ss u)
contains-insert s [] u = refl
contains-insert s (t ∷ ts) u =
    elim (compare_symbols s t) as (λ o. compare_symbols s t ≡ o → contains (match_ordering o (s ∷ t ∷ ts) (t ∷ ts) (t ∷ insert s ts)) u ≡ (bytes_eq u s || (bytes_eq u t || contains ts u))) [
      | Less ↦ λ e. refl
      | Equal ↦ λ e. subst (λ v. (bytes_eq u v || contains ts u) ≡ (bytes_eq u s || (bytes_eq u v || contains ts u))) (same_from_compare_symbols s t e) (or_twice (bytes_eq u s) (contains ts u))
      | Greater ↦ λ e. ap (λ b. bytes_eq u t || b) (contains-insert s ts u) ∙ or_swap (bytes_eq u t) (bytes_eq u s) _
    ] refl

pub contains-set_of : (ss : List Symbol) (u : Symbol) → contains (set_of ss) u ≡ contains ss u
contains-set_of [] u = refl
contains-set_of (s ∷ ss) u = contains-insert s (set_of ss) u ∙ ap (λ b. bytes_eq u s || b) (contains-set_of ss u)

pub contains-union : (ss ts : List Symbol) (u : Symbol) → contains (union ss ts) u ≡ (contains ss u || contains ts u)
contains-union [] ts u = refl
contains-union (s ∷ ss) ts u = contains-insert s (union ss ts) u ∙ ap (λ b. bytes_eq u s || b) (contains-union ss ts u) ∙ or_assoc (bytes_eq u s) (contains ss u) (contains ts u)

and-false : (p : Bool) → (p && false) ≡ false
and-false true = refl
and-false false = refl

kept_itself : (s u : Symbol) (kept : List Symbol) (rest b : Bool) → bytes_eq u s ≡ true → contains kept u ≡ (rest && b) → contains (cond b (s ∷ kept) kept) u ≡ b
kept_itself s u kept rest true e is = ap (λ c. c || contains kept u) e
kept_itself s u kept rest false e is = is ∙ and-false rest

kept_other : (s u : Symbol) (kept : List Symbol) (r : Bool) (b : Bool) → bytes_eq u s ≡ false → contains kept u ≡ r → contains (cond b (s ∷ kept) kept) u ≡ r
kept_other s u kept r true e is = ap (λ c. c || contains kept u) e ∙ is
kept_other s u kept r false e is = is

kept_or_not : (p : Symbol → Bool) (s u : Symbol) (kept : List Symbol) (rest : Bool) → contains kept u ≡ (rest && p u) → contains (cond (p s) (s ∷ kept) kept) u ≡ ((bytes_eq u s || rest) && p u)
kept_or_not p s u kept rest is =
    elim (bytes_eq u s) as (λ b. bytes_eq u s ≡ b → contains (cond (p s) (s ∷ kept) kept) u ≡ ((b || rest) && p u)) [
      | true ↦ λ e. subst (λ v. contains (cond (p v) (s ∷ kept) kept) u ≡ p u) ((bytes_decides u s).0 e) (kept_itself s u kept rest (p u) e is)
      | false ↦ λ e. kept_other s u kept (rest && p u) (p s) e is
    ] refl

pub contains-filter : (p : Symbol → Bool) (ss : List Symbol) (u : Symbol) → contains (filter p ss) u ≡ (contains ss u && p u)
contains-filter p [] u = refl
contains-filter p (s ∷ ss) u = kept_or_not p s u (filter p ss) (contains ss u) (contains-filter p ss u)

pub contains-meet : (ss ts : List Symbol) (u : Symbol) → contains (meet ss ts) u ≡ (contains ss u && contains ts u)
contains-meet ss ts u = contains-filter (contains ts) ss u

pub contains-minus : (ss ts : List Symbol) (u : Symbol) → contains (minus ss ts) u ≡ (contains ss u && not (contains ts u))
contains-minus ss ts u = contains-filter (λ s. not (contains ts s)) ss u

pub ascends-set_of : (ss : List Symbol) → ascends (set_of ss) ≡ true
ascends-set_of [] = refl
ascends-set_of (s ∷ ss) = ascends-insert s (set_of ss) (ascends-set_of ss)

pub ascends-union : (ss ts : List Symbol) → ascends ts ≡ true → ascends (union ss ts) ≡ true
ascends-union [] ts up = up
ascends-union (s ∷ ss) ts up = ascends-insert s (union ss ts) (ascends-union ss ts up)

-- ---- a set is its members

contains-first : (s : Symbol) (ss : List Symbol) → contains (s ∷ ss) s ≡ true
contains-first s ss = ap (λ b. b || contains ss s) ((bytes_decides s s).1 refl)

lacks-first : (s : Symbol) (ss : List Symbol) → ascends (s ∷ ss) ≡ true → contains ss s ≡ false
lacks-first s [] up = refl
lacks-first s (t ∷ ss) up = contains-before s t ss (ascends-first s t ss up) (ascends-rest s (t ∷ ss) up)

same_rest : (s : Symbol) (ss ts : List Symbol) → ascends (s ∷ ss) ≡ true → ascends (s ∷ ts) ≡ true → ((u : Symbol) → contains (s ∷ ss) u ≡ contains (s ∷ ts) u) → (u : Symbol) → contains ss u ≡ contains ts u
same_rest s ss ts up vp is u =
    elim (bytes_eq u s) as (λ b. bytes_eq u s ≡ b → (b || contains ss u) ≡ (b || contains ts u) → contains ss u ≡ contains ts u) [
      | true ↦ λ e _. subst (λ v. contains ss v ≡ contains ts v) (sym ((bytes_decides u s).0 e)) (lacks-first s ss up ∙ sym (lacks-first s ts vp))
      | false ↦ λ e same. same
    ] refl (is u)

-- sets with the same members are equal
pub same_set : (ss ts : List Symbol) → ascends ss ≡ true → ascends ts ≡ true → ((u : Symbol) → contains ss u ≡ contains ts u) → ss ≡ ts
same_set [] [] up vp is = refl
same_set [] (t ∷ ts) up vp is = absurd (false≢true (is t ∙ contains-first t ts))
same_set (s ∷ ss) [] up vp is = absurd (false≢true (sym (is s) ∙ contains-first s ss))
same_set (s ∷ ss) (t ∷ ts) up vp is =
    elim (compare_symbols s t) as (λ o. compare_symbols s t ≡ o → s ∷ ss ≡ t ∷ ts) [
      | Less ↦ λ e. absurd (false≢true (sym (contains-before s t ts (ap is_lt e) vp) ∙ (sym (is s) ∙ contains-first s ss)))
      | Equal ↦ λ e.
          subst (λ v. ascends (v ∷ ts) ≡ true → ((u : Symbol) → contains (s ∷ ss) u ≡ contains (v ∷ ts) u) → s ∷ ss ≡ v ∷ ts) (same_from_compare_symbols s t e)
          (λ wp same. ap (λ us. s ∷ us) (same_set ss ts (ascends-rest s ss up) (ascends-rest s ts wp) (same_rest s ss ts up wp same))) vp is
      | Greater ↦ λ e. absurd (false≢true (sym (contains-before t s ss (ap is_lt (compare_symbols-reversed s t Greater e)) up) ∙ (is t ∙ contains-first t ts)))
    ] refl
