-- Lists of parts, each of which is read, or one of which is not.
use Rattle.std.proofs.Common.{◌≡◌, ◌⊎◌, inl, inr, ℕ, zero, suc, ◌+◌, ◌<◌, List, [], ◌∷◌, ◌++◌, length, get_or, take, Option, None, Err, length-append, refl, sym, ap, ◌∙◌, subst, arith}
use Rattle.std.specs.List.{AllZip, Any}
use Rattle.std.proofs.lemmas.List.{take_more, get_or_at}
use Rattle.value_json.specs.Errors.{ReadsBy, ReadsEach}
use Rattle.value_json.specs.declared.part_error.PartError.{PartError}
use Rattle.value_json.specs.declared.part_error.PartError.TheVariants as part_error

module _ {A B : Type 0} (R : A → B → Type 0) where
  pub AllZip-push : (xs : List A) (ys : List B) (x : A) (y : B) → AllZip R xs ys → R x y → AllZip R (xs ++ x ∷ []) (ys ++ y ∷ [])
  AllZip-push [] [] x y all one = (one, tt)
  AllZip-push [] (b ∷ ys) x y all one = absurd all
  AllZip-push (a ∷ xs) [] x y all one = absurd all
  AllZip-push (a ∷ xs) (b ∷ ys) x y all one = (all.0, AllZip-push xs ys x y all.1 one)

  pub AllZip-more : (xs : List A) (ys : List B) (i : ℕ) (x : A) (y : B) → i < length xs → x ≡ get_or xs i x → AllZip R (take i xs) ys → R x y → AllZip R (take (i + 1) xs) (ys ++ y ∷ [])
  AllZip-more xs ys i x y within is all one =
      subst (λ zs. AllZip R zs (ys ++ y ∷ [])) (ap (λ z. take i xs ++ z ∷ []) is ∙ sym (take_more xs i x within)) (AllZip-push (take i xs) ys x y all one)

pub Any_middle : {A : Type 0} (P : A → Type 0) (done : List A) (x : A) (rest : List A) → P x → Any P (done ++ x ∷ rest)
Any_middle P done x rest one = (length done, x, omega (arith, length-append done (x ∷ rest)), get_or_at done x rest x (length done) refl, one)

-- the first, or one of the others
pub Any-cases : {A : Type 0} (P : A → Type 0) (x : A) (xs : List A) → Any P (x ∷ xs) → P x ⊎ Any P xs
Any-cases {A} P x xs some = at some.0 some.1 some.2 some.3 some.4 where
  at : (k : ℕ) (y : A) → k < length (x ∷ xs) → get_or (x ∷ xs) k y ≡ y → P y → P x ⊎ Any P xs
  at zero y within is one = inl (subst P (sym is) one)
  at (suc k) y within is one = inr (k, y, omega (arith, within), is, one)

pub Any-nil : {A : Type 0} (P : A → Type 0) → Any P [] → ⊥
Any-nil P some = omega (arith, some.2)

-- the part at hand fails
pub fails_here : {V D X : Type 0} (view : V → List X) (gives : D → Option X → Type 0) (ds done : List D) (d : D) (rest : List D) (e : PartError) → ds ≡ done ++ d ∷ rest → ReadsBy {X = X} (gives d) (Err e) → ReadsEach view gives ds (Err e)
fails_here view gives ds done d rest part_error.Misshapen all none = subst (Any (λ d. gives d None)) (sym all) (Any_middle (λ d. gives d None) done d rest none)
fails_here view gives ds done d rest part_error.Memory all none = tt
