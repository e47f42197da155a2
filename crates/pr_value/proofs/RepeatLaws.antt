-- Where a symbol stands twice in a list.
use Rattle.std.proofs.Common.{◌≡◌, ℕ, suc, ◌+◌, ◌<◌, Bool, true, false, cond, not, ◌&&◌, ◌||◌, List, [], ◌∷◌, ◌++◌, length, take, drop, get_or, length-take, Option, Some, None, refl, ap, sym, ◌∙◌, subst, arith}
use Rattle.std.specs.BTreeSet as tree
use Rattle.std.specs.BTreeSet.{BTreeSet}
use Rattle.std.specs.declared.cmp.Ordering.{Ordering}
use Rattle.std.specs.declared.cmp.Ordering.TheVariants.{Less, Equal, Greater}
use Rattle.std.specs.Ordering.{is_eq, ordering_reverse}
use Rattle.std.proofs.Math.Bool.{and-true}
use Rattle.std.proofs.Math.Seq.{drop-cons}
use Rattle.std.proofs.lemmas.List.{take_more, take-append-drop}
use Rattle.std.proofs.lemmas.List.Folds.{list_any-append}
use Rattle.std.specs.Cmp.{decided}
use Rattle.std.specs.Cmp.Lexicographic.{bytes_decides}
use Rattle.std.specs.List.{list_any, list_all}
use Rattle.std.specs.Option.{is_some, option_map}
use Rattle.std.specs.Str.{bytes_eq}
use Rattle.pr_value.specs.Symbols.{Symbol}
use Rattle.pr_value.specs.SymbolSets.{compare_symbols, contains}
use Rattle.pr_value.specs.Repeats.{are_distinct, repeated_after, first_repeated}
use Rattle.pr_value.proofs.Shelf.{cond_place-none}
use Rattle.pr_value.proofs.OrderLaws.{bytes_eq-compare_symbols}
use Rattle.pr_value.proofs.MemberLaws.{or_swap, or_assoc}

-- where the symbols before are distinct, one of them is the first that is repeated
pub repeated_here : (earlier ss rest : List Symbol) (s : Symbol) → repeated_after earlier ss ≡ None → (contains ss s || contains earlier s) ≡ true → repeated_after earlier (ss ++ s ∷ rest) ≡ Some (length ss)
repeated_here earlier [] rest s none is = ap (λ b. cond b (Some 0) (option_map suc (repeated_after (s ∷ earlier) rest))) is
repeated_here earlier (t ∷ ss) rest s none is =
    let apart = cond_place-none (contains earlier t) (repeated_after (t ∷ earlier) ss) none in
    ap (λ b. cond b (Some 0) (option_map suc (repeated_after (t ∷ earlier) (ss ++ s ∷ rest)))) apart.0
    ∙ ap (option_map suc) (repeated_here (t ∷ earlier) ss rest s apart.1 (or_swap (contains ss s) (bytes_eq s t) (contains earlier s) ∙ (or_assoc (bytes_eq s t) (contains ss s) (contains earlier s) ∙ is)))

-- and a further one leaves them distinct
pub repeated_none : (earlier ss : List Symbol) (s : Symbol) → repeated_after earlier ss ≡ None → (contains ss s || contains earlier s) ≡ false → repeated_after earlier (ss ++ s ∷ []) ≡ None
repeated_none earlier [] s none is = ap (λ b. cond b (Some 0) None) is
repeated_none earlier (t ∷ ss) s none is =
    let apart = cond_place-none (contains earlier t) (repeated_after (t ∷ earlier) ss) none in
    ap (λ b. cond b (Some 0) (option_map suc (repeated_after (t ∷ earlier) (ss ++ s ∷ [])))) apart.0
    ∙ ap (option_map suc) (repeated_none (t ∷ earlier) ss s apart.1 (or_swap (contains ss s) (bytes_eq s t) (contains earlier s) ∙ (or_assoc (bytes_eq s t) (contains ss s) (contains earlier s) ∙ is)))

-- ---- distinct symbols

-- none of the symbols is one of the earlier ones
unfoldable are_new : List Symbol → List Symbol → Bool
are_new earlier ss = list_all (λ s. not (contains earlier s)) ss

new_swap : (a b c d : Bool) → (not (a || b) && (not c && d)) ≡ (not (a || c) && (not b && d))
new_swap true b c d = refl
new_swap false true true d = refl
new_swap false true false d = refl
new_swap false false true d = refl
new_swap false false false d = refl

are_new-cons : (earlier : List Symbol) (s : Symbol) (ss : List Symbol) → are_new (s ∷ earlier) ss ≡ (not (contains ss s) && are_new earlier ss)
unfolding are_new
are_new-cons earlier s [] = refl
are_new-cons earlier s (t ∷ ss) =
    ap (λ b. not (bytes_eq t s || contains earlier t) && b) (are_new-cons earlier s ss)
    ∙ (ap (λ b. not (b || contains earlier t) && (not (contains ss s) && are_new earlier ss)) ((decided bytes_eq bytes_decides).symm t s) ∙ new_swap (bytes_eq s t) (contains earlier t) (contains ss s) (are_new earlier ss))

distinct_swap : (o : Option ℕ) (p q b d : Bool) → (q && (not p && d)) ≡ not (is_some o) → ((not p && q) && (not b && d)) ≡ not (is_some (cond b (Some 0) (option_map suc o)))
distinct_swap o true true true d e = refl
distinct_swap o true false true d e = refl
distinct_swap o false true true d e = refl
distinct_swap o false false true d e = refl
distinct_swap None true true false d e = e
distinct_swap None true false false d e = e
distinct_swap None false q false d e = e
distinct_swap (Some n) true true false d e = e
distinct_swap (Some n) true false false d e = e
distinct_swap (Some n) false q false d e = e

distinct_after : (earlier ss : List Symbol) → (are_distinct ss && are_new earlier ss) ≡ not (is_some (repeated_after earlier ss))
unfolding are_new
distinct_after earlier [] = refl
distinct_after earlier (s ∷ ss) =
    distinct_swap (repeated_after (s ∷ earlier) ss) (contains ss s) (are_distinct ss) (contains earlier s) (are_new earlier ss)
    (ap (λ b. are_distinct ss && b) (sym (are_new-cons earlier s ss)) ∙ distinct_after (s ∷ earlier) ss)

all_new : (ss : List Symbol) → are_new [] ss ≡ true
unfolding are_new
all_new [] = refl
all_new (s ∷ ss) = all_new ss

-- the symbols are distinct exactly where none equals an earlier one
pub are_distinct-first_repeated : (ss : List Symbol) → are_distinct ss ≡ not (is_some (first_repeated ss))
are_distinct-first_repeated ss = sym (and-true (are_distinct ss)) ∙ (ap (λ b. are_distinct ss && b) (sym (all_new ss)) ∙ distinct_after [] ss)

-- ---- as the code finds it, with the symbols before in a tree

either_way : (o : Ordering) (b c : Bool) → c ≡ is_eq (ordering_reverse o) → cond (is_eq o) true b ≡ (b || (c || false))
either_way Less true c e = refl
either_way Less false c e = sym (ap (λ d. d || false) e)
either_way Equal true c e = refl
either_way Equal false c e = sym (ap (λ d. d || false) e)
either_way Greater true c e = refl
either_way Greater false c e = sym (ap (λ d. d || false) e)

-- the tree holds these symbols, and none of them stands twice
pub record Passed (known : BTreeSet Symbol) (ss : List Symbol) : Type 0 where
  pub held : (q : Symbol) → tree.contains compare_symbols known q ≡ contains ss q
  pub distinct : first_repeated ss ≡ None

pub Passed-none : (known : BTreeSet Symbol) → known.keys ≡ [] → Passed known []
Passed-none known e = record { held = λ q. ap (list_any (λ k. is_eq (compare_symbols q k))) e; distinct = refl }

contains-or : (ss : List Symbol) (s : Symbol) (b : Bool) → contains ss s ≡ b → (contains ss s || contains [] s) ≡ b
contains-or ss s true e = ap (λ c. c || false) e
contains-or ss s false e = ap (λ c. c || false) e

pub Passed-more : (known new : BTreeSet Symbol) (ss : List Symbol) (i : ℕ) (s : Symbol) → i < length ss → s ≡ get_or ss i s → Passed known (take i ss) → tree.Updates compare_symbols known new s true
    → tree.contains compare_symbols known s ≡ false → Passed new (take (i + 1) ss)
Passed-more known new ss i s within at passed updates lacks =
    let more : take (i + 1) ss ≡ take i ss ++ s ∷ [] = take_more ss i s within ∙ ap (λ t. take i ss ++ t ∷ []) (sym at) in
    subst (Passed new) (sym more)
    record {
      held = λ q.
          updates.0 q
          ∙ ap (cond (is_eq (compare_symbols s q)) true) (passed.held q)
          ∙ either_way (compare_symbols s q) (contains (take i ss) q) (bytes_eq q s) (bytes_eq-compare_symbols q s (compare_symbols s q) refl)
          ∙ sym (list_any-append (bytes_eq q) (take i ss) (s ∷ []));
      distinct = repeated_none [] (take i ss) s passed.distinct (contains-or (take i ss) s false (sym (passed.held s) ∙ lacks));
    }

pub Passed-found : (known : BTreeSet Symbol) (ss : List Symbol) (i : ℕ) (s : Symbol) → i < length ss → s ≡ get_or ss i s → Passed known (take i ss) → tree.contains compare_symbols known s ≡ true → Some i ≡ first_repeated ss
Passed-found known ss i s within at passed has =
    let whole : take i ss ++ s ∷ drop (suc i) ss ≡ ss = ap (λ t. take i ss ++ t ∷ drop (suc i) ss) at ∙ ap (λ us. take i ss ++ us) (sym (drop-cons ss i s within)) ∙ take-append-drop i ss in
    let short : length (take i ss) ≡ i = omega (arith, length-take i ss) in
    sym (ap first_repeated (sym whole) ∙ (repeated_here [] (take i ss) (drop (suc i) ss) s passed.distinct (contains-or (take i ss) s true (sym (passed.held s) ∙ has)) ∙ ap (λ n. Some n) short))

not_twice : (b : Bool) → b ≡ not (not b)
not_twice true = refl
not_twice false = refl

pub distinct_from : (ss : List Symbol) (o : Option ℕ) (b : Bool) → o ≡ first_repeated ss → is_some o ≡ not b → b ≡ are_distinct ss
distinct_from ss o b is none = not_twice b ∙ (ap not (sym none ∙ ap is_some is) ∙ sym (are_distinct-first_repeated ss))
