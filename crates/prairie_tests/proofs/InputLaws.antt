-- The inputs of data, as the table of moves has them.
use Rattle.std.proofs.Common.{◌≡◌, ℕ, zero, suc, ◌+◌, ◌<◌, Bool, true, false, List, [], ◌∷◌, length, map, take, Some, None, refl, ap, arith}
use Rattle.std.specs.Prelude.{slice_get, if◌then◌else◌}

map_some : (f : ℕ → ℕ) (n i x : ℕ) (is : List ℕ) → i < length (map f (take n is)) → slice_get is i ≡ Some x → slice_get (map f (take n is)) i ≡ Some (f x)
map_some f zero i x is h e = absurd (omega (arith, h))
map_some f (suc n) i x [] h e = cc
map_some f (suc n) zero x (a ∷ is) h e = let same : a ≡ x = cc in ap (λ v. Some (f v)) same
map_some f (suc n) (suc i) x (a ∷ is) h e = map_some f n i x is (omega (arith, h)) e

pub input_some : (f : ℕ → ℕ) (i x : ℕ) (is : List ℕ) (b : Bool) → i < length (if b then map f (take 4 is) else []) → slice_get is i ≡ Some x → slice_get (if b then map f (take 4 is) else []) i ≡ Some (f x)
input_some f i x is true h e = map_some f 4 i x is h e
input_some f i x is false h e = absurd (omega (arith, h))

map_none : (f : ℕ → ℕ) (n i : ℕ) (is : List ℕ) → i < length (map f (take n is)) → slice_get is i ≡ None → ⊥
map_none f zero i is h e = omega (arith, h)
map_none f (suc n) i [] h e = omega (arith, h)
map_none f (suc n) zero (a ∷ is) h e = cc
map_none f (suc n) (suc i) (a ∷ is) h e = map_none f n i is (omega (arith, h)) e

pub input_none : (f : ℕ → ℕ) (i : ℕ) (is : List ℕ) (b : Bool) → i < length (if b then map f (take 4 is) else []) → slice_get is i ≡ None → ⊥
input_none f i is true h e = map_none f 4 i is h e
input_none f i is false h e = omega (arith, h)
