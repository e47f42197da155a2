-- Small lemmas, which the proofs of several crates cite, on options, tests and bytes.
use Rattle.std.proofs.Common.{◌≡◌, ℕ, suc, Bool, true, false, cond, ◌&&◌, List, ◌∷◌, Option, Some, None, refl}
use Rattle.std.specs.Option.{option_map, option_and_then}
use Rattle.std.specs.Cmp.Lexicographic.{bytes_decides}
use Rattle.std.specs.Str.{bytes_eq}
use Rattle.std.proofs.lemmas.Option.{same_Some}
use Rattle.std.proofs.lemmas.Bool.{false≢true}

pub option_map-none : {A B : Type 0} (f : A → B) (o : Option A) → option_map f o ≡ None → o ≡ None
option_map-none f None e = refl
option_map-none f (Some x) e = cc

pub option_map-some : {A B : Type 0} (f : A → B) (o : Option A) (y : B) → option_map f o ≡ Some y → (x : A) × (o ≡ Some x) × (f x ≡ y)
option_map-some f None y e = cc
option_map-some f (Some x) y e = (x, refl, same_Some (f x) y e)

pub option_and_then-some : {A B : Type 0} (f : A → Option B) (o : Option A) (y : B) → option_and_then f o ≡ Some y → (x : A) × (o ≡ Some x) × (f x ≡ Some y)
option_and_then-some f None y e = cc
option_and_then-some f (Some x) y e = (x, refl, e)

-- the first place that a test finds, where neither the first element passes nor one behind it
pub cond_place-none : (b : Bool) (o : Option ℕ) → cond b (Some 0) (option_map suc o) ≡ None → (b ≡ false) × (o ≡ None)
cond_place-none true o e = cc
cond_place-none false o e = (refl, option_map-none suc o e)

pub bytes_eq-same : (s t : List ℕ) → bytes_eq s t ≡ true → s ≡ t
bytes_eq-same s t = (bytes_decides s t).0

pub bytes_eq-itself : (s : List ℕ) → bytes_eq s s ≡ true
bytes_eq-itself s = (bytes_decides s s).1 refl

pub cons-first : {A : Type 0} (x y : A) (xs ys : List A) → x ∷ xs ≡ y ∷ ys → x ≡ y
cons-first x y xs ys e = cc

pub cons-rest : {A : Type 0} (x y : A) (xs ys : List A) → x ∷ xs ≡ y ∷ ys → xs ≡ ys
cons-rest x y xs ys e = cc

pub four_true : (a b c d : Bool) → (a && b && c && d) ≡ true → (a ≡ true) × (b ≡ true) × (c ≡ true) × (d ≡ true)
four_true true true true d e = (refl, refl, refl, e)
four_true true true false d e = absurd (false≢true e)
four_true true false c d e = absurd (false≢true e)
four_true false b c d e = absurd (false≢true e)
