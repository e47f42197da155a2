-- What stands at places of lists.
use Rattle.std.proofs.Common.{◌≡◌, ℕ, zero, suc, ◌+◌, ◌<◌, List, [], ◌∷◌, length, map, drop, get_or, refl, ap, sym, ◌∙◌, arith, drop-cons}

pub at_place : {A B : Type 0} (f : A → B) (xs : List A) (i : ℕ) (x : A) → i < length xs → x ≡ get_or xs i x → map f (drop i xs) ≡ f x ∷ map f (drop (i + 1) xs)
at_place f xs i x within is =
    ap (map f) (drop-cons xs i x within) ∙ (ap (λ y. f y ∷ map f (drop (suc i) xs)) (sym is) ∙ (let e : suc i ≡ i + 1 = omega arith in ap (λ k. f x ∷ map f (drop k xs)) e))

-- what is there is no default
pub got_within : {X : Type 0} (xs : List X) (i : ℕ) (d e : X) → i < length xs → get_or xs i d ≡ get_or xs i e
got_within [] i d e within = absurd (omega (arith, within))
got_within (x ∷ xs) zero d e within = refl
got_within (x ∷ xs) (suc i) d e within = got_within xs i d e (omega (arith, within))

pub map-itself : (xs : List ℕ) → map (λ x. x) xs ≡ xs
map-itself [] = refl
map-itself (x ∷ xs) = ap (λ ys. x ∷ ys) (map-itself xs)

pub number_at : (ns : List ℕ) (i n : ℕ) → i < length ns → n ≡ get_or ns i n → drop i ns ≡ n ∷ drop (i + 1) ns
number_at ns i n within is = sym (map-itself (drop i ns)) ∙ (at_place (λ x. x) ns i n within is ∙ ap (λ ys. n ∷ ys) (map-itself (drop (i + 1) ns)))
