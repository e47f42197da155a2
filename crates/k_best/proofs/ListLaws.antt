-- Lists by place, lists of numbers, and the pigeonhole principle.
use Rattle.std.proofs.Common.{◌≡◌, ◌≢◌, ℕ, zero, suc, ◌+◌, ◌≤◌, ◌<◌, List, [], ◌∷◌, ◌++◌, length, map, take, get_or, Some, None, refl, ap, sym, ◌∙◌, subst, arith, inl, inr}
use Rattle.std.specs.Prelude.{◌⊎◌, slice_get}
use Rattle.std.specs.List.{AllZip, AllByRecursion}
use Rattle.std.proofs.lemmas.Option.{slice_get_read}

pub some_same : {A : Type 0} (a b : A) → Some a ≡ Some b → a ≡ b
some_same a b e = cc

pub none_some : {A : Type 0} (a : A) → None ≡ Some a → ⊥
none_some a e = cc

pub get_left : {A : Type 0} (xs ys : List A) (i : ℕ) → i < length xs → slice_get (xs ++ ys) i ≡ slice_get xs i
get_left [] ys i h = absurd (omega (arith, h))
get_left (x ∷ xs) ys zero h = refl
get_left (x ∷ xs) ys (suc i) h = get_left xs ys i (omega (arith, h))

pub get_right : {A : Type 0} (xs ys : List A) (i j : ℕ) → j ≡ length xs + i → slice_get (xs ++ ys) j ≡ slice_get ys i
get_right [] ys i j e = let same : j ≡ i = omega (arith, e) in ap (slice_get ys) same
get_right (x ∷ xs) ys i zero e = absurd (omega (arith, e))
get_right (x ∷ xs) ys i (suc j) e = get_right xs ys i j (omega (arith, e))

pub get_take : {A : Type 0} (n : ℕ) (xs : List A) (i : ℕ) → i < n → slice_get (take n xs) i ≡ slice_get xs i
get_take zero xs i h = absurd (omega (arith, h))
get_take (suc n) [] i h = refl
get_take (suc n) (x ∷ xs) zero h = refl
get_take (suc n) (x ∷ xs) (suc i) h = get_take n xs i (omega (arith, h))

pub got_take : {A : Type 0} (n : ℕ) (xs : List A) (i : ℕ) (x : A) → slice_get (take n xs) i ≡ Some x → (i < n) × (slice_get xs i ≡ Some x)
got_take zero xs i x e = cc
got_take (suc n) [] i x e = cc
got_take (suc n) (y ∷ xs) zero x e = (omega arith, e)
got_take (suc n) (y ∷ xs) (suc i) x e = let h = got_take n xs i x e in (omega (arith, h.0), h.1)

pub get_within : {A : Type 0} (xs : List A) (i : ℕ) (x : A) → slice_get xs i ≡ Some x → i < length xs
get_within [] i x e = cc
get_within (y ∷ xs) zero x e = omega arith
get_within (y ∷ xs) (suc i) x e = omega (arith, get_within xs i x e)

pub get_there : {A : Type 0} (xs : List A) (i : ℕ) → i < length xs → (x : A) × (slice_get xs i ≡ Some x)
get_there [] i h = absurd (omega (arith, h))
get_there (x ∷ xs) zero h = (x, refl)
get_there (x ∷ xs) (suc i) h = get_there xs i (omega (arith, h))

-- an item of a list with one more is an item of the list, or the last
pub get_cases : {A : Type 0} (xs : List A) (y : A) (i : ℕ) (x : A) → slice_get (xs ++ y ∷ []) i ≡ Some x
    → (slice_get xs i ≡ Some x) ⊎ ((i ≡ length xs) × (y ≡ x))
get_cases [] y zero x e = inr (refl, some_same y x e)
get_cases [] y (suc i) x e = cc
get_cases (z ∷ xs) y zero x e = inl e
get_cases (z ∷ xs) y (suc i) x e = elim (get_cases xs y i x e) [ inl h ↦ inl h | inr h ↦ inr (ap suc h.0, h.1) ]

pub get_last : {A : Type 0} (xs : List A) (y : A) → slice_get (xs ++ y ∷ []) (length xs) ≡ Some y
get_last [] y = refl
get_last (x ∷ xs) y = get_last xs y

pub get_more : {A : Type 0} (xs ys : List A) (i : ℕ) (x : A) → slice_get xs i ≡ Some x → slice_get (xs ++ ys) i ≡ Some x
get_more xs ys i x e = get_left xs ys i (get_within xs i x e) ∙ e

pub all_get : {A : Type 0} (P : A → Type 0) (xs : List A) (i : ℕ) (x : A) → AllByRecursion P xs → slice_get xs i ≡ Some x → P x
all_get P [] i x h e = cc
all_get P (y ∷ xs) zero x h e = subst P (some_same y x e) h.0
all_get P (y ∷ xs) (suc i) x h e = all_get P xs i x h.1 e

pub le_or_lt : (a b : ℕ) → (a ≤ b) ⊎ (b < a)
le_or_lt zero b = inl (omega arith)
le_or_lt (suc a) zero = inr (omega arith)
le_or_lt (suc a) (suc b) = elim (le_or_lt a b) [ inl l ↦ inl (omega arith) | inr l ↦ inr (omega arith) ]

pub same_or_not : (h g : ℕ) → (h ≡ g) ⊎ (h ≢ g)
same_or_not zero zero = inl refl
same_or_not zero (suc g) = inr (λ e. omega (arith, e))
same_or_not (suc h) zero = inr (λ e. omega (arith, e))
same_or_not (suc h) (suc g) = elim (same_or_not h g) [ inl e ↦ inl (ap suc e) | inr n ↦ inr (λ e. n (omega (arith, e))) ]

pub same_lists : (xs ys : List ℕ) → (xs ≡ ys) ⊎ (xs ≡ ys → ⊥)
same_lists [] [] = inl refl
same_lists [] (y ∷ ys) = inr (λ e. cc)
same_lists (x ∷ xs) [] = inr (λ e. cc)
same_lists (x ∷ xs) (y ∷ ys) = both (same_or_not x y) (same_lists xs ys) where
  both : (x ≡ y) ⊎ (x ≢ y) → (xs ≡ ys) ⊎ (xs ≡ ys → ⊥) → (x ∷ xs ≡ y ∷ ys) ⊎ (x ∷ xs ≡ y ∷ ys → ⊥)
  both (inl a) (inl b) = inl cc
  both (inr a) o = inr (λ e. a (cc))
  both (inl a) (inr b) = inr (λ e. b (cc))

-- where the hole is left out
abbrev Skips : (ℕ → ℕ → Type 0) → ℕ → ℕ → ℕ → Type 0
Skips R hole i j = ((j < hole) × R i j) ⊎ ((hole ≤ j) × R i (suc j))

skip : (n hole i j : ℕ) (R : ℕ → ℕ → Type 0) → hole < suc n → j < suc n → j ≢ hole → R i j → (hole ≤ j) ⊎ (j < hole) → (j' : ℕ) × (j' < n) × Skips R hole i j'
skip n hole i zero R h l ne r (inl o) = absurd (omega (arith, ne, o))
skip n hole i (suc j) R h l ne r (inl o) = (j, omega (arith, l), inr (omega (arith, ne, o), r))
skip n hole i j R h l ne r (inr o) = (j, omega (arith, h, o), inl (o, r))

pub pigeon : (n count : ℕ) (R : ℕ → ℕ → Type 0) → ((i : ℕ) → i < count → (j : ℕ) × (j < n) × R i j)
    → ((i k j : ℕ) → i < count → k < count → R i j → R k j → i ≡ k) → count ≤ n
pigeon n zero R has one = omega arith
pigeon zero (suc count) R has one = let h = has count (omega arith) in absurd (omega (arith, h.1))
pigeon (suc n) (suc count) R has one =
    let last = has count (omega arith) in
    let rest : count ≤ n = pigeon n count (Skips R last.0) (fit last.0 last.1 last.2) (apart last.0) in omega (arith, rest)
  where
    fit : (hole : ℕ) → hole < suc n → R count hole → (i : ℕ) → i < count → (j : ℕ) × (j < n) × Skips R hole i j
    fit hole l r i h = let at = has i (omega (arith, h)) in
        skip n hole i at.0 R l at.1 (λ e. (let same : i ≡ count = one i count hole (omega (arith, h)) (omega arith) (subst (R i) e at.2) r in omega (arith, same, h))) at.2 (le_or_lt hole at.0)

    apart : (hole i k j : ℕ) → i < count → k < count → Skips R hole i j → Skips R hole k j → i ≡ k
    apart hole i k j a b (inl x) (inl y) = one i k j (omega (arith, a)) (omega (arith, b)) x.1 y.1
    apart hole i k j a b (inl x) (inr y) = absurd (omega (arith, x.0, y.0))
    apart hole i k j a b (inr x) (inl y) = absurd (omega (arith, x.0, y.0))
    apart hole i k j a b (inr x) (inr y) = one i k (suc j) (omega (arith, a)) (omega (arith, b)) x.1 y.1

pub zip_from : (R : ℕ → ℕ → Type 0) (xs ys : List ℕ) → length ys ≡ length xs → ((j : ℕ) → j < length xs → R (get_or xs j 0) (get_or ys j 0)) → AllZip R xs ys
zip_from R [] [] l h = tt
zip_from R [] (y ∷ ys) l h = absurd (omega (arith, l))
zip_from R (x ∷ xs) [] l h = absurd (omega (arith, l))
zip_from R (x ∷ xs) (y ∷ ys) l h = (h zero (omega arith), zip_from R xs ys (omega (arith, l)) (λ j jl. h (suc j) (omega (arith, jl))))

pub zip_at : (R : ℕ → ℕ → Type 0) (xs ys : List ℕ) (i x : ℕ) → AllZip R xs ys → slice_get xs i ≡ Some x → R x (get_or ys i 0)
zip_at R [] [] i x h e = cc
zip_at R [] (y ∷ ys) i x h e = absurd h
zip_at R (z ∷ xs) [] i x h e = absurd h
zip_at R (z ∷ xs) (y ∷ ys) zero x h e = subst (λ w. R w y) (some_same z x e) h.0
zip_at R (z ∷ xs) (y ∷ ys) (suc i) x h e = zip_at R xs ys i x h.1 e

pub zip_long : (R : ℕ → ℕ → Type 0) (xs ys : List ℕ) → AllZip R xs ys → length ys ≡ length xs
zip_long R [] [] h = refl
zip_long R [] (y ∷ ys) h = absurd h
zip_long R (x ∷ xs) [] h = absurd h
zip_long R (x ∷ xs) (y ∷ ys) h = ap suc (zip_long R xs ys h.1)

pub or_there : (xs : List ℕ) (i x : ℕ) → slice_get xs i ≡ Some x → get_or xs i 0 ≡ x
or_there [] i x e = cc
or_there (y ∷ xs) zero x e = some_same y x e
or_there (y ∷ xs) (suc i) x e = or_there xs i x e

pub map_from : (f : ℕ → ℕ) (xs ys : List ℕ) → length xs ≡ length ys → ((j : ℕ) → j < length xs → f (get_or xs j 0) ≡ f (get_or ys j 0)) → map f xs ≡ map f ys
map_from f [] [] l h = refl
map_from f [] (y ∷ ys) l h = absurd (omega (arith, l))
map_from f (x ∷ xs) [] l h = absurd (omega (arith, l))
map_from f (x ∷ xs) (y ∷ ys) l h =
    let here : f x ≡ f y = h zero (omega arith) in let rest : map f xs ≡ map f ys = map_from f xs ys (omega (arith, l)) (λ j jl. h (suc j) (omega (arith, jl))) in cc

pub map_long : (f : ℕ → ℕ) (xs ys : List ℕ) → map f xs ≡ map f ys → length xs ≡ length ys
map_long f [] [] e = refl
map_long f [] (y ∷ ys) e = cc
map_long f (x ∷ xs) [] e = cc
map_long f (x ∷ xs) (y ∷ ys) e = (let rest : map f xs ≡ map f ys = cc in ap suc (map_long f xs ys rest))

pub map_at : (f : ℕ → ℕ) (xs ys : List ℕ) (j : ℕ) → map f xs ≡ map f ys → j < length xs → f (get_or xs j 0) ≡ f (get_or ys j 0)
map_at f [] ys j e l = absurd (omega (arith, l))
map_at f (x ∷ xs) [] j e l = cc
map_at f (x ∷ xs) (y ∷ ys) zero e l = cc
map_at f (x ∷ xs) (y ∷ ys) (suc j) e l = (let rest : map f xs ≡ map f ys = cc in map_at f xs ys j rest (omega (arith, l)))

pub item : {A : Type 0} (xs : List A) (i : ℕ) (x : A) → i < length xs → x ≡ get_or xs i x → slice_get xs i ≡ Some x
item xs i x l e = slice_get_read xs (length xs) i x refl l e

-- the one at that place, or one before it
pub at_or_before : {A : Type 0} (xs : List A) (n i : ℕ) (x y : A) → i < n + 1 → slice_get xs n ≡ Some x → slice_get xs i ≡ Some y → (i < n) ⊎ (x ≡ y)
at_or_before xs n i x y h e f = by_order (le_or_lt n i) where
  by_order : (n ≤ i) ⊎ (i < n) → (i < n) ⊎ (x ≡ y)
  by_order (inl o) = let same : n ≡ i = omega (arith, h, o) in inr (some_same x y (sym e ∙ ap (slice_get xs) same ∙ f))
  by_order (inr o) = inl o

pub item_in : {A : Type 0} (xs ys : List A) (i : ℕ) (x : A) → xs ≡ ys → i < length ys → x ≡ get_or xs i x → slice_get ys i ≡ Some x
item_in {A} xs ys i x e l is = item ys i x l (is ∙ ap (λ (all : List A). get_or all i x) e)
