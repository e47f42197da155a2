-- Inputs read one by one.
use Rattle.std.proofs.Common.{◌≡◌, ℕ, zero, suc, ◌+◌, ◌≤◌, List, [], ◌∷◌, ◌++◌, length, map, take, Some, ap, sym, subst, arith, add-one}
use Rattle.std.specs.Prelude.{slice_get}
use Rattle.std.specs.List.{AllByRecursion}
use Rattle.k_best.proofs.ListLaws.{some_same}

map_suc : {A : Type 0} (f : ℕ → A) (xs : List ℕ) (i x : ℕ) → slice_get xs i ≡ Some x → map f (take (suc i) xs) ≡ map f (take i xs) ++ f x ∷ []
map_suc f [] i x e = cc
map_suc f (y ∷ xs) zero x e = let same : y ≡ x = some_same y x e in ap (λ z. f z ∷ []) same
map_suc f (y ∷ xs) (suc i) x e = ap (λ all. f y ∷ all) (map_suc f xs i x e)

all_suc : (P : ℕ → Type 0) (xs : List ℕ) (i x : ℕ) → slice_get xs i ≡ Some x → AllByRecursion P (take i xs) → P x → AllByRecursion P (take (suc i) xs)
all_suc P [] i x e h p = cc
all_suc P (y ∷ xs) zero x e h p = (subst P (sym (some_same y x e)) p, tt)
all_suc P (y ∷ xs) (suc i) x e h p = (h.0, all_suc P xs i x e h.1 p)

pub all_whole : (P : ℕ → Type 0) (xs : List ℕ) (n : ℕ) → length xs ≤ n → AllByRecursion P (take n xs) → AllByRecursion P xs
all_whole P [] n l h = tt
all_whole P (x ∷ xs) zero l h = absurd (omega (arith, l))
all_whole P (x ∷ xs) (suc n) l h = (h.0, all_whole P xs n (omega (arith, l)) h.1)

pub map_take : {A : Type 0} (f : ℕ → A) (xs : List ℕ) (i x : ℕ) → slice_get xs i ≡ Some x → map f (take (i + 1) xs) ≡ map f (take i xs) ++ f x ∷ []
map_take f xs i x e = subst (λ (n : ℕ). map f (take n xs) ≡ map f (take i xs) ++ f x ∷ []) (sym (add-one i)) (map_suc f xs i x e)

pub all_take : (P : ℕ → Type 0) (xs : List ℕ) (i x : ℕ) → slice_get xs i ≡ Some x → AllByRecursion P (take i xs) → P x → AllByRecursion P (take (i + 1) xs)
all_take P xs i x e h p = subst (λ (n : ℕ). AllByRecursion P (take n xs)) (sym (add-one i)) (all_suc P xs i x e h p)

pub all_on : (P Q : ℕ → Type 0) → ((h : ℕ) → P h → Q h) → (xs : List ℕ) → AllByRecursion P xs → AllByRecursion Q xs
all_on P Q f [] h = tt
all_on P Q f (x ∷ xs) h = (f x h.0, all_on P Q f xs h.1)
