-- A number among others.
use Rattle.std.proofs.Common.{◌≡◌, ℕ, ◌+◌, ◌<◌, Bool, true, false, cond, ◌||◌, List, [], ◌∷◌, length, take, get_or, refl, ap, ◌∙◌, arith}
use Rattle.std.proofs.lemmas.Bool.Decides.{nat_tests}
use Rattle.std.proofs.lemmas.List.{take_more}
use Rattle.std.proofs.lemmas.List.Folds.{list_any-append}
use Rattle.std.specs.BTreeMap.{is_at}
use Rattle.std.specs.Ordering.{nat_cmp}
use Rattle.std.specs.Prelude.{◌==◌}
use Rattle.rule_types.specs.Conditions.{has_number}

-- a key is found where the numbers are equal
pub is_at-same : (k n : ℕ) → is_at (nat_cmp k) n ≡ (n == k)
is_at-same k n = grind (arith, nat_tests)

or_last : (a b : Bool) → (a || (b || false)) ≡ cond b true a
or_last true true = refl
or_last true false = refl
or_last false true = refl
or_last false false = refl

pub has_number-more : (ns : List ℕ) (i d n : ℕ) → i < length ns → has_number (take (i + 1) ns) n ≡ cond (n == get_or ns i d) true (has_number (take i ns) n)
has_number-more ns i d n within =
    ap (λ ms. has_number ms n) (take_more ns i d within)
    ∙ (list_any-append (λ m. n == m) (take i ns) (get_or ns i d ∷ []) ∙ or_last (has_number (take i ns) n) (n == get_or ns i d))

pub ruleset number_laws = (is_at-same)
