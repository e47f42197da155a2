-- Two lists of equal length, side by side.
use Rattle.std.proofs.Common.{◌≡◌, ℕ, ◌<◌, List, [], ◌∷◌, ◌++◌, length, map, Some, slice_get, get_or, refl, ap, sym, subst, arith}
use Rattle.std.specs.List.{zip}
use Rattle.std.proofs.lemmas.Slice.Zip.{firsts-zip, seconds-zip, length-zip}
use Rattle.std.proofs.lemmas.Option.{slice_get_read}

pub zip-push : {A B : Type 0} (xs : List A) (ys : List B) (x : A) (y : B) → length xs ≡ length ys → zip (xs ++ x ∷ []) (ys ++ y ∷ []) ≡ zip xs ys ++ (x, y) ∷ []
zip-push [] [] x y e = refl
zip-push [] (b ∷ ys) x y e = absurd (omega (arith, e))
zip-push (a ∷ xs) [] x y e = absurd (omega (arith, e))
zip-push (a ∷ xs) (b ∷ ys) x y e = let f : length xs ≡ length ys = omega (arith, e) in ap (λ zs. (a, b) ∷ zs) (zip-push xs ys x y f)

pub firsts : {A B : Type 0} (xs : List A) (ys : List B) → length xs ≡ length ys → xs ≡ map (λ (p : A × B). p.0) (zip xs ys)
firsts xs ys e = sym (firsts-zip xs ys (sym e))

pub seconds : {A B : Type 0} (xs : List A) (ys : List B) → length xs ≡ length ys → ys ≡ map (λ (p : A × B). p.1) (zip xs ys)
seconds xs ys e = sym (seconds-zip xs ys (sym e))

pub length_of_zip : {A B : Type 0} (xs : List A) (ys : List B) → length xs ≡ length ys → length (zip xs ys) ≡ length xs
length_of_zip xs ys e = omega (arith, length-zip xs ys, e)

pub ruleset zip_laws = (zip-push, firsts, seconds, length_of_zip)

-- what stands at a place of one of the lists stands there in the pairs
pub first_at : {A B : Type 0} (xs : List A) (ys : List B) (ps : List (A × B)) (i : ℕ) (x : A) → length xs ≡ length ys → zip xs ys ≡ ps → i < length ps → x ≡ get_or xs i x → slice_get (map (λ (p : A × B). p.0) ps) i ≡ Some x
first_at {A} {B} xs ys ps i x e same within read =
    let long : i < length xs = omega (arith, length_of_zip xs ys e, ap length same) in
    subst (λ (qs : List (A × B)). slice_get (map (λ (p : A × B). p.0) qs) i ≡ Some x) same
    (subst (λ (zs : List A). slice_get zs i ≡ Some x) (firsts xs ys e) (slice_get_read xs (length xs) i x refl long read))

pub second_at : {A B : Type 0} (xs : List A) (ys : List B) (ps : List (A × B)) (i : ℕ) (y : B) → length xs ≡ length ys → zip xs ys ≡ ps → i < length ps → y ≡ get_or ys i y → slice_get (map (λ (p : A × B). p.1) ps) i ≡ Some y
second_at {A} {B} xs ys ps i y e same within read =
    let long : i < length ys = omega (arith, length_of_zip xs ys e, ap length same, e) in
    subst (λ (qs : List (A × B)). slice_get (map (λ (p : A × B). p.1) qs) i ≡ Some y) same
    (subst (λ (zs : List B). slice_get zs i ≡ Some y) (seconds xs ys e) (slice_get_read ys (length ys) i y refl long read))
