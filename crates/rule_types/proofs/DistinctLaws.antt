-- Numbers of which none stands twice, with those before in a tree.
use Rattle.std.proofs.Common.{◌≡◌, ℕ, ◌+◌, ◌<◌, Bool, true, false, cond, not, ◌&&◌, ◌||◌, List, [], ◌∷◌, ◌++◌, length, nat_eq, map, take, drop, get_or, refl, ap, sym, ◌∙◌, subst, inl, inr}
use Rattle.std.specs.Prelude.{◌==◌, ◌⊎◌}
use Rattle.std.specs.BTreeSet as tree
use Rattle.std.specs.BTreeSet.{BTreeSet}
use Rattle.std.specs.Ordering.{nat_cmp, is_eq}
use Rattle.std.specs.Cmp.{unsigned_tied}
use Rattle.std.specs.List.{list_any, list_all, zip}
use Rattle.std.proofs.Math.Dec.{eqb-zero-suc, eqb-suc-zero, eqb-suc-suc}
use Rattle.std.proofs.lemmas.Bool.{cases_eq, eq-eqb, ne_eqb}
use Rattle.std.proofs.lemmas.List.{take_more, take-append-drop}
use Rattle.std.proofs.lemmas.List.Folds.{list_any-append}
use Rattle.rule_types.specs.Conditions.{are_numbers_distinct, has_number, same_numbers}

swapped : (m n : ℕ) → (m == n) ≡ (n == m)
swapped m n = by_cases (cases_eq m n) where
  by_cases : (m ≡ n) ⊎ (m ≡ n → ⊥) → (m == n) ≡ (n == m)
  by_cases (inl e) = eq-eqb m n e ∙ sym (eq-eqb n m (sym e))
  by_cases (inr h) = ne_eqb m n h ∙ sym (ne_eqb n m (λ e. h (sym e)))

has-append : (ns ms : List ℕ) (k : ℕ) → has_number (ns ++ ms) k ≡ (has_number ns k || has_number ms k)
has-append ns ms k = list_any-append (λ m. k == m) ns ms

-- what a further number does
step : (a b c d : Bool) → (not (c || (a || false)) && (d && not b)) ≡ ((not c && d) && not (a || b))
step true b true d = refl
step true b false true = refl
step true b false false = refl
step false b true d = refl
step false b false true = refl
step false b false false = refl

-- a further number is none of them
pub distinct-append : (ns : List ℕ) (n : ℕ) → are_numbers_distinct (ns ++ n ∷ []) ≡ (are_numbers_distinct ns && not (has_number ns n))
distinct-append [] n = refl
distinct-append (m ∷ ns) n =
    ap (λ b. not b && are_numbers_distinct (ns ++ n ∷ [])) (has-append ns (n ∷ []) m)
    ∙ (ap (λ b. not (has_number ns m || ((m == n) || false)) && b) (distinct-append ns n)
    ∙ (ap (λ b. not (has_number ns m || (b || false)) && (are_numbers_distinct ns && not (has_number ns n))) (swapped m n)
    ∙ step (n == m) (has_number ns n) (has_number ns m) (are_numbers_distinct ns)))

-- nor are more distinct where some are not
not_first : (b c d f : Bool) → (not b && d) ≡ false → (d ≡ false → f ≡ false) → (not (b || c) && f) ≡ false
not_first true c d f e more = refl
not_first false true d f e more = refl
not_first false false d f e more = more e

pub twice-append : (ns ms : List ℕ) → are_numbers_distinct ns ≡ false → are_numbers_distinct (ns ++ ms) ≡ false
twice-append [] ms e = absurd (cc e)
twice-append (n ∷ ns) ms e =
    ap (λ b. not b && are_numbers_distinct (ns ++ ms)) (has-append ns ms n)
    ∙ not_first (has_number ns n) (has_number ms n) (are_numbers_distinct ns) (are_numbers_distinct (ns ++ ms)) e (λ h. twice-append ns ms h)

-- the tree holds these numbers, and none of them stands twice
pub record Passed (known : BTreeSet ℕ) (ns : List ℕ) : Type 0 where
  pub held : (q : ℕ) → tree.contains nat_cmp known q ≡ has_number ns q
  pub distinct : are_numbers_distinct ns ≡ true

pub Passed-none : (known : BTreeSet ℕ) → known.keys ≡ [] → Passed known []
Passed-none known e = record { held = λ q. ap (list_any (λ k. is_eq (nat_cmp q k))) e; distinct = refl }

is_eq-nat_cmp : (x y : ℕ) → is_eq (nat_cmp x y) ≡ (x == y)
is_eq-nat_cmp x y = unsigned_tied x y

either_way : (b c : Bool) → cond b true c ≡ (c || (b || false))
either_way true true = refl
either_way true false = refl
either_way false true = refl
either_way false false = refl

pub Passed-more : (known new : BTreeSet ℕ) (ns : List ℕ) (i d : ℕ) → i < length ns → Passed known (take i ns) → tree.Updates nat_cmp known new (get_or ns i d) true
    → tree.contains nat_cmp known (get_or ns i d) ≡ false → Passed new (take (i + 1) ns)
Passed-more known new ns i d within passed updates lacks =
    let n : ℕ = get_or ns i d in
    subst (Passed new) (sym (take_more ns i d within))
    record {
      held = λ q.
          updates.0 q
          ∙ ap (cond (is_eq (nat_cmp n q)) true) (passed.held q)
          ∙ ap (λ b. cond b true (has_number (take i ns) q)) (is_eq-nat_cmp n q ∙ swapped n q)
          ∙ either_way (q == n) (has_number (take i ns) q)
          ∙ sym (has-append (take i ns) (n ∷ []) q);
      distinct =
          distinct-append (take i ns) n
          ∙ ap (λ b. b && not (has_number (take i ns) n)) passed.distinct
          ∙ ap not (sym (passed.held n) ∙ lacks);
    }

pub Passed-found : (known : BTreeSet ℕ) (ns : List ℕ) (i d : ℕ) → i < length ns → Passed known (take i ns) → tree.contains nat_cmp known (get_or ns i d) ≡ true → false ≡ are_numbers_distinct ns
Passed-found known ns i d within passed has =
    let n : ℕ = get_or ns i d in
    let twice : are_numbers_distinct (take (i + 1) ns) ≡ false =
    ap are_numbers_distinct (take_more ns i d within)
    ∙ (distinct-append (take i ns) n
    ∙ (ap (λ b. are_numbers_distinct (take i ns) && not b) (sym (passed.held n) ∙ has)
    ∙ ap (λ b. b && false) passed.distinct)) in
    sym (ap are_numbers_distinct (sym (take-append-drop (i + 1) ns)) ∙ twice-append (take (i + 1) ns) (drop (i + 1) ns) twice)

-- ---- the same numbers in the same order

and_swap : (a b c : Bool) → (a && (b && c)) ≡ (b && (a && c))
and_swap true b c = refl
and_swap false true c = refl
and_swap false false c = refl

-- as many, and the same at each place
pub same_numbers-map : {X : Type 0} (f : X → ℕ) (xs : List X) (ns : List ℕ) → same_numbers (map f xs) ns ≡ (nat_eq (length xs) (length ns) && list_all (λ z. f z.0 == z.1) (zip xs ns))
same_numbers-map f [] [] = refl
same_numbers-map f [] (n ∷ ns) = ap (λ b. b && true) (sym (eqb-zero-suc (length ns)))
same_numbers-map f (x ∷ xs) [] = ap (λ b. b && true) (sym (eqb-suc-zero (length xs)))
same_numbers-map {X} f (x ∷ xs) (n ∷ ns) =
    let rest = list_all (λ (z : X × ℕ). f z.0 == z.1) (zip xs ns) in
    ap (λ b. f x == n && b) (same_numbers-map f xs ns)
    ∙ and_swap (f x == n) (nat_eq (length xs) (length ns)) rest
    ∙ ap (λ b. b && (f x == n && rest)) (sym (eqb-suc-suc (length xs) (length ns)))

pub ruleset number_laws = (same_numbers-map)
