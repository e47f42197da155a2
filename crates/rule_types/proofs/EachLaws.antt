-- What is known of each of a list, at a place of it.
use Rattle.std.proofs.Common.{◌≡◌, ℕ, zero, suc, ◌<◌, Bool, true, false, List, [], ◌∷◌, length, get_or, map, ap, ◌∙◌, arith}
use Rattle.std.proofs.lemmas.Bool.{and_parts, or_parts}
use Rattle.std.specs.List.{list_all, list_any}

-- of what is seen of it
pub list_all-seen : {A B : Type 0} (seen : B → A) (good : A → Bool) (xs : List B) (i : ℕ) (d : B) → list_all good (map seen xs) ≡ true → i < length xs → good (seen (get_or xs i d)) ≡ true
list_all-seen seen good [] i d all within = absurd (omega (arith, within))
list_all-seen seen good (x ∷ xs) zero d all within = (and_parts (good (seen x)) (list_all good (map seen xs)) all).0
list_all-seen seen good (x ∷ xs) (suc i) d all within =
    list_all-seen seen good xs i d (and_parts (good (seen x)) (list_all good (map seen xs)) all).1 (omega (arith, within))

-- as in a loop over the list, which is lent as a slice
pub list_all-met : {A B : Type 0} (seen : B → A) (good : A → Bool) (xs ys : List B) (i : ℕ) (x : B) → list_all good (map seen xs) ≡ true → ys ≡ xs → i < length ys → x ≡ get_or ys i x → good (seen x) ≡ true
list_all-met seen good xs ys i x all same within is =
    ap (λ y. good (seen y)) is ∙ list_all-seen seen good ys i x (ap (λ zs. list_all good (map seen zs)) same ∙ all) within

-- what holds of none
pub list_any-seen : {A B : Type 0} (seen : B → A) (bad : A → Bool) (xs : List B) (i : ℕ) (d : B) → list_any bad (map seen xs) ≡ false → i < length xs → bad (seen (get_or xs i d)) ≡ false
list_any-seen seen bad [] i d none within = absurd (omega (arith, within))
list_any-seen seen bad (x ∷ xs) zero d none within = (or_parts (bad (seen x)) (list_any bad (map seen xs)) none).0
list_any-seen seen bad (x ∷ xs) (suc i) d none within =
    list_any-seen seen bad xs i d (or_parts (bad (seen x)) (list_any bad (map seen xs)) none).1 (omega (arith, within))
