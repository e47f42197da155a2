-- Two lists side by side, as far as both go.
use Rattle.std.proofs.Common.{◌≡◌, ℕ, zero, suc, ◌+◌, ◌≤◌, ◌<◌, min, List, [], ◌∷◌, ◌++◌, take, length, Some, get_or, refl, ap, ◌∙◌, arith}
use Rattle.std.specs.Prelude.{zip, slice_get}
use Rattle.std.proofs.lemmas.Option.{same_Some, slice_get_read}

zip-next : {A B : Type 0} (xs : List A) (ys : List B) (i : ℕ) (x : A) (y : B) → slice_get xs i ≡ Some x → slice_get ys i ≡ Some y → zip (take (suc i) xs) ys ≡ zip (take i xs) ys ++ (x, y) ∷ []
zip-next [] ys i x y first second = cc
zip-next (a ∷ xs) [] i x y first second = cc
zip-next (a ∷ xs) (b ∷ ys) zero x y first second = ap (λ u. (u, b) ∷ []) (same_Some a x first) ∙ ap (λ v. (x, v) ∷ []) (same_Some b y second)
zip-next (a ∷ xs) (b ∷ ys) (suc i) x y first second = ap (λ ps. (a, b) ∷ ps) (zip-next xs ys i x y first second)

-- one pair more
pub zip-more : {A B : Type 0} (xs : List A) (ys : List B) (i : ℕ) (x : A) (y : B) → slice_get xs i ≡ Some x → slice_get ys i ≡ Some y → zip (take (i + 1) xs) ys ≡ zip (take i xs) ys ++ (x, y) ∷ []
zip-more xs ys i x y first second =
    let one : i + 1 ≡ suc i = omega arith in ap (λ n. zip (take n xs) ys) one ∙ zip-next xs ys i x y first second

-- and in the end all
pub zip-all : {A B : Type 0} (xs : List A) (ys : List B) (n : ℕ) → min (length xs) (length ys) ≤ n → zip (take n xs) ys ≡ zip xs ys
zip-all [] ys zero past = refl
zip-all [] ys (suc n) past = refl
zip-all (a ∷ xs) [] zero past = refl
zip-all (a ∷ xs) [] (suc n) past = refl
zip-all (a ∷ xs) (b ∷ ys) zero past = absurd (omega (arith, past))
zip-all (a ∷ xs) (b ∷ ys) (suc n) past = ap (λ ps. (a, b) ∷ ps) (zip-all xs ys n (omega (arith, past)))

pub read-at : {A : Type 0} (xs : List A) (i : ℕ) (x : A) → i < length xs → x ≡ get_or xs i x → slice_get xs i ≡ Some x
read-at xs i x within read = slice_get_read xs (length xs) i x refl within read
