-- What stands at which place of a list.
use Rattle.std.proofs.Common.{◌≡◌, ◌≢◌, ℕ, zero, suc, ◌≤◌, ◌<◌, ◌⊎◌, List, [], ◌∷◌, ◌++◌, length, map, take, Contains, Some, None, slice_get, slice_index_or, refl, ap, sym, ◌∙◌, subst, arith, inl, inr}
use Rattle.std.specs.List.{AllZip, AllByRecursion}
use Rattle.std.proofs.lemmas.Bool.{cases_eq}

module _ {X : Type 0} where
  get_less : (xs : List X) (j : ℕ) (x : X) → slice_get xs j ≡ Some x → j < length xs
  get_less [] j x e = cc
  get_less (y ∷ ys) zero x e = omega arith
  get_less (y ∷ ys) (suc j) x e = omega (arith, get_less ys j x e)

  pub get_at : (xs : List X) (j : ℕ) (d : X) → j < length xs → slice_get xs j ≡ Some (slice_index_or xs j d)
  get_at [] j d l = absurd (omega (arith, l))
  get_at (y ∷ ys) zero d l = refl
  get_at (y ∷ ys) (suc j) d l = get_at ys j d (omega (arith, l))

  index_is : (xs : List X) (j : ℕ) (x d : X) → slice_get xs j ≡ Some x → slice_index_or xs j d ≡ x
  index_is [] j x d e = cc
  index_is (y ∷ ys) zero x d e = cc
  index_is (y ∷ ys) (suc j) x d e = index_is ys j x d e

  pub place_less : (xs : List X) (j : ℕ) (x : X) → slice_get xs j ≡ Some x → j < length xs
  place_less xs j x e = get_less xs j x e

  pub contains_get : (xs : List X) (x : X) → Contains xs x → (j : ℕ) × (slice_get xs j ≡ Some x)
  contains_get xs x c = (c.0, get_at xs c.0 x c.1 ∙ ap Some c.2)

  pub get_contains : (xs : List X) (j : ℕ) (x : X) → slice_get xs j ≡ Some x → Contains xs x
  get_contains xs j x e = (j, get_less xs j x e, index_is xs j x x e)

  pub contains_here : (x : X) (xs : List X) → Contains (x ∷ xs) x
  contains_here x xs = (0, omega arith, refl)

  pub contains_there : (y : X) (xs : List X) (x : X) → Contains xs x → Contains (y ∷ xs) x
  contains_there y xs x c = (suc c.0, omega (arith, c.1), c.2)

  pub contains_cases : (y : X) (xs : List X) (x : X) → Contains (y ∷ xs) x → (x ≡ y) ⊎ Contains xs x
  contains_cases y xs x c = by_place c.0 c.1 c.2 where
    by_place : (k : ℕ) → k < length (y ∷ xs) → slice_index_or (y ∷ xs) k x ≡ x → (x ≡ y) ⊎ Contains xs x
    by_place zero l e = inl (sym e)
    by_place (suc k) l e = inr (k, omega (arith, l), e)

  pub none_contained : (x : X) → Contains [] x → ⊥
  none_contained x c = omega (arith, c.1)

  pub get_append : (xs ys : List X) (j : ℕ) (x : X) → slice_get xs j ≡ Some x → slice_get (xs ++ ys) j ≡ Some x
  get_append [] ys j x e = cc
  get_append (z ∷ zs) ys zero x e = e
  get_append (z ∷ zs) ys (suc j) x e = get_append zs ys j x e

  pub get_within : (xs ys : List X) (j : ℕ) (x : X) → j < length xs → slice_get (xs ++ ys) j ≡ Some x → slice_get xs j ≡ Some x
  get_within [] ys j x l e = absurd (omega (arith, l))
  get_within (z ∷ zs) ys zero x l e = e
  get_within (z ∷ zs) ys (suc j) x l e = get_within zs ys j x (omega (arith, l)) e

  pub get_last : (xs : List X) (y : X) → slice_get (xs ++ y ∷ []) (length xs) ≡ Some y
  get_last [] y = refl
  get_last (z ∷ zs) y = get_last zs y

  -- an element of a list with one more at its end stands where it stood, or is that one
  pub get_push : (xs : List X) (y : X) (j : ℕ) (x : X) → slice_get (xs ++ y ∷ []) j ≡ Some x → (slice_get xs j ≡ Some x) ⊎ ((j ≡ length xs) × (x ≡ y))
  get_push [] y zero x e = inr (refl, cc)
  get_push [] y (suc j) x e = cc
  get_push (z ∷ zs) y zero x e = inl e
  get_push (z ∷ zs) y (suc j) x e = elim (get_push zs y j x e) [ inl h ↦ inl h | inr h ↦ inr (ap suc h.0, h.1) ]

  pub take_more : (xs ys : List X) (j : ℕ) → j ≤ length xs → take j (xs ++ ys) ≡ take j xs
  take_more xs ys zero l = refl
  take_more [] ys (suc j) l = absurd (omega (arith, l))
  take_more (z ∷ zs) ys (suc j) l = ap (λ l. z ∷ l) (take_more zs ys j (omega (arith, l)))

  pub take_whole : (xs : List X) → take (length xs) xs ≡ xs
  take_whole [] = refl
  take_whole (z ∷ zs) = ap (λ l. z ∷ l) (take_whole zs)

  -- a list in which all of another stands where it stood is not shorter
  pub no_shorter : (xs ys : List X) → ((j : ℕ) (x : X) → slice_get xs j ≡ Some x → slice_get ys j ≡ Some x) → length xs ≤ length ys
  no_shorter [] ys h = omega arith
  no_shorter (x ∷ xs) [] h = absurd (nothing x (h 0 x refl)) where
    nothing : (z : X) → None ≡ Some z → ⊥
    nothing z e = cc
  no_shorter (x ∷ xs) (y ∷ ys) h = omega (arith, no_shorter xs ys (λ j z e. h (suc j) z e))

  pub get_take : (xs : List X) (n j : ℕ) (x : X) → slice_get (take n xs) j ≡ Some x → (j < n) × (slice_get xs j ≡ Some x)
  get_take xs zero j x e = cc
  get_take [] (suc n) j x e = cc
  get_take (z ∷ zs) (suc n) zero x e = (omega arith, e)
  get_take (z ∷ zs) (suc n) (suc j) x e = let h = get_take zs n j x e in (omega (arith, h.0), h.1)

  pub get_of_index : (xs : List X) (j : ℕ) (x : X) → j < length xs → x ≡ slice_index_or xs j x → slice_get xs j ≡ Some x
  get_of_index xs j x l e = get_at xs j x l ∙ ap Some (sym e)

  pub some_is : (x y : X) → Some x ≡ Some y → x ≡ y
  some_is x y e = cc

-- the images of the elements, pair by pair
pub zip_map : {Y : Type 0} (R : ℕ → Y → Type 0) (f : ℕ → Y) (xs : List ℕ) → ((x : ℕ) → Contains xs x → R x (f x)) → AllZip R xs (map f xs)
zip_map R f [] h = tt
zip_map R f (x ∷ xs) h = (h x (contains_here x xs), zip_map R f xs (λ y c. h y (contains_there x xs y c)))

pub map_same : {Y : Type 0} (f g : ℕ → Y) (xs : List ℕ) → ((x : ℕ) → Contains xs x → f x ≡ g x) → map f xs ≡ map g xs
map_same f g [] h = refl
map_same f g (x ∷ xs) h = ap (λ y. y ∷ map f xs) (h x (contains_here x xs)) ∙ ap (λ l. g x ∷ l) (map_same f g xs (λ y c. h y (contains_there x xs y c)))

pub map_map : {Y Z : Type 0} (g : Y → Z) (f : ℕ → Y) (xs : List ℕ) → map g (map f xs) ≡ map (λ x. g (f x)) xs
map_map g f [] = refl
map_map g f (x ∷ xs) = ap (λ l. g (f x) ∷ l) (map_map g f xs)

-- a number is in the list, or differs from all in it
pub in_or_not : (xs : List ℕ) (x : ℕ) → Contains xs x ⊎ ((y : ℕ) → Contains xs y → y ≢ x)
in_or_not [] x = inr (λ y c e. none_contained y c)
in_or_not (z ∷ zs) x = by_head (cases_eq z x) (in_or_not zs x) where
  by_head : (z ≡ x) ⊎ (z ≡ x → ⊥) → Contains zs x ⊎ ((y : ℕ) → Contains zs y → y ≢ x) → Contains (z ∷ zs) x ⊎ ((y : ℕ) → Contains (z ∷ zs) y → y ≢ x)
  by_head (inl e) h = inl (subst (λ y. Contains (z ∷ zs) y) e (contains_here z zs))
  by_head (inr n) (inl c) = inl (contains_there z zs x c)
  by_head (inr n) (inr h) = inr (λ y c e. elim (contains_cases z zs y c) [ inl s ↦ n (sym s ∙ e) | inr d ↦ h y d e ])

pub all_in : (P : ℕ → Type 0) (xs : List ℕ) → AllByRecursion P xs → (x : ℕ) → Contains xs x → P x
all_in P [] h x c = absurd (none_contained x c)
all_in P (z ∷ zs) h x c = elim (contains_cases z zs x c) [ inl e ↦ subst P (sym e) h.0 | inr d ↦ all_in P zs h.1 x d ]
