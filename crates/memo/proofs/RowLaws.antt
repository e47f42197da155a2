-- Two lists, row by row.
use Rattle.std.proofs.Common.{◌≡◌, ℕ, zero, suc, ◌+◌, ◌<◌, ◌≤◌, List, [], ◌∷◌, ◌++◌, length, take, slice_index_or, refl, ap, subst, arith}
use Rattle.std.specs.Prelude.{All}
use Rattle.std.specs.List.{AllZip}

zip_next : {A B : Type 0} (R : A → B → Type 0) (xs : List A) (ys : List B) (n : ℕ) (d : A) (y : B) → n < length xs → AllZip R (take n xs) ys → R (slice_index_or xs n d) y → AllZip R (take (suc n) xs) (ys ++ y ∷ [])
zip_next R [] ys n d y low all r = let e : ⊥ = omega (arith, low) in absurd e
zip_next R (x ∷ xs) [] zero d y low all r = (r, tt)
zip_next R (x ∷ xs) (z ∷ ys) zero d y low all r = absurd all
zip_next R (x ∷ xs) [] (suc n) d y low all r = absurd all
zip_next R (x ∷ xs) (z ∷ ys) (suc n) d y low all r = (all.0, zip_next R xs ys n d y (omega (arith, low)) all.1 r)

-- one row more
pub zip_more : {A B : Type 0} (R : A → B → Type 0) (xs : List A) (ys : List B) (n : ℕ) (d : A) (y : B) → n < length xs → AllZip R (take n xs) ys → R (slice_index_or xs n d) y → AllZip R (take (n + 1) xs) (ys ++ y ∷ [])
zip_more R xs ys n d y low all r = let one : suc n ≡ n + 1 = omega arith in subst (λ k. AllZip R (take k xs) (ys ++ y ∷ [])) one (zip_next R xs ys n d y low all r)

zip_both_next : {A B : Type 0} (R : A → B → Type 0) (xs : List A) (ys : List B) (n : ℕ) (d : A) (b : B) → n < length xs → n < length ys → AllZip R (take n xs) (take n ys) → R (slice_index_or xs n d) (slice_index_or ys n b) → AllZip R (take (suc n) xs) (take (suc n) ys)
zip_both_next R [] ys n d b low low' all r = let e : ⊥ = omega (arith, low) in absurd e
zip_both_next R (x ∷ xs) [] n d b low low' all r = let e : ⊥ = omega (arith, low') in absurd e
zip_both_next R (x ∷ xs) (y ∷ ys) zero d b low low' all r = (r, tt)
zip_both_next R (x ∷ xs) (y ∷ ys) (suc n) d b low low' all r = (all.0, zip_both_next R xs ys n d b (omega (arith, low)) (omega (arith, low')) all.1 r)

pub zip_both : {A B : Type 0} (R : A → B → Type 0) (xs : List A) (ys : List B) (n : ℕ) (d : A) (b : B) → n < length xs → n < length ys → AllZip R (take n xs) (take n ys) → R (slice_index_or xs n d) (slice_index_or ys n b) → AllZip R (take (n + 1) xs) (take (n + 1) ys)
zip_both R xs ys n d b low low' all r = let one : suc n ≡ n + 1 = omega arith in subst (λ k. AllZip R (take k xs) (take k ys)) one (zip_both_next R xs ys n d b low low' all r)

pub take_whole : {A : Type 0} (xs : List A) (n : ℕ) → length xs ≤ n → take n xs ≡ xs
take_whole [] zero h = refl
take_whole [] (suc n) h = refl
take_whole (x ∷ xs) zero h = let e : ⊥ = omega (arith, h) in absurd e
take_whole (x ∷ xs) (suc n) h = ap (λ r. x ∷ r) (take_whole xs n (omega (arith, h)))

pub all_at : (P : ℕ → Type 0) (xs : List ℕ) (n d : ℕ) → n < length xs → All P xs → P (slice_index_or xs n d)
all_at P [] n d low all = let e : ⊥ = omega (arith, low) in absurd e
all_at P (x ∷ xs) zero d low all = all zero d low
all_at P (x ∷ xs) (suc n) d low all = all_at P xs n d (omega (arith, low)) (λ k b h. all (suc k) b (omega (arith, h)))
