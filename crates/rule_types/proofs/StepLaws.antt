-- A list from a place on, as it is seen.
use Rattle.std.proofs.Common.{◌≡◌, ℕ, suc, ◌+◌, ◌<◌, ◌≤◌, Bool, true, false, ◌||◌, List, [], ◌∷◌, length, drop, get_or, map, ap, sym, ◌∙◌, add-one}
use Rattle.std.proofs.Math.Seq.{drop-cons}
use Rattle.std.proofs.lemmas.List.{at_drop_more, drop_all}

pub map-drop : {X Y : Type 0} (h : X → Y) (xs : List X) (i : ℕ) (x : X) → i < length xs → x ≡ get_or xs i x → map h (drop i xs) ≡ h x ∷ map h (drop (i + 1) xs)
map-drop h xs i x within is = rw add-one (ap (map h) (drop-cons xs i x within ∙ ap (λ d. d ∷ drop (suc i) xs) (sym is)))

-- a walk that asks each until one is found, of which the rest decides
module _ {X : Type 0} (asks : X → Bool) (any : List X → Bool) (one : (x : X) (xs : List X) → any (x ∷ xs) ≡ (asks x || any xs)) (xs : List X) (i : ℕ) (so_far : any (drop i xs) ≡ any xs) where
  rest-from : (x : X) {b c : Bool} → i < length xs → x ≡ get_or xs i x → b ≡ asks x → b ≡ c → any xs ≡ (c || any (drop (i + 1) xs))
  rest-from x within here is known =
      sym so_far ∙ at_drop_more any xs i x within ∙ ap (λ y. any (y ∷ drop (i + 1) xs)) (sym here) ∙ one x (drop (i + 1) xs)
      ∙ ap (λ d. d || any (drop (i + 1) xs)) (sym is ∙ known)

  pub rest-found : (x : X) {b : Bool} → i < length xs → x ≡ get_or xs i x → b ≡ asks x → b ≡ true → true ≡ any xs
  rest-found x within here is known = sym (rest-from x within here is known)

  pub rest-more : (x : X) {b : Bool} → i < length xs → x ≡ get_or xs i x → b ≡ asks x → b ≡ false → any (drop (i + 1) xs) ≡ any xs
  rest-more x within here is known = sym (rest-from x within here is known)

  pub rest-none : any [] ≡ false → length xs ≤ i → false ≡ any xs
  rest-none none past = sym none ∙ sym (ap any (drop_all i xs past)) ∙ so_far

pub ruleset step_laws = (map-drop)
