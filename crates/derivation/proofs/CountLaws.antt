-- More than n different trees are met exactly where a list that has one of each has more than n.
use Rattle.std.proofs.Common.{◌≡◌, ℕ, zero, suc, ◌<◌, ◌≤◌, List, [], ◌∷◌, ◌++◌, length, take, slice_index_or, refl, ap, sym, ◌∙◌, subst, arith, inl, inr, length-take-le, get_or-take}
use Rattle.std.specs.Prelude.{◌⊎◌, ◌↔◌, Option, All, AllPairs, Contains}
use Rattle.pr_value.specs.Trees.{Tree, label}
use Rattle.derivation.specs.Equality.{Met, Alike, HasDifferent, IsOneOfEach}
use Rattle.derivation.proofs.FixedLaws.{alike_sym, alike_trans}

-- a list around one of its elements
split : {A : Type 0} (ys : List A) (y : A) → Contains ys y → (front : List A) × (back : List A) × (ys ≡ front ++ y ∷ back)
split [] y (k, h, e) = let n : ⊥ = omega (arith, h) in absurd n
split (z ∷ ys) y (zero, h, e) = ([], ys, ap (λ w. w ∷ ys) e)
split (z ∷ ys) y (suc k, h, e) = let (front, back, is) = split ys y (k, omega (arith, h), e) in (z ∷ front, back, ap (λ w. z ∷ w) is)

later : {A : Type 0} (x y : A) (xs : List A) → Contains xs x → Contains (y ∷ xs) x
later x y xs (k, h, e) = (suc k, omega (arith, h), e)

around : {A : Type 0} (front : List A) (y : A) (back : List A) (z : A) → Contains (front ++ y ∷ back) z → Contains (front ++ back) z ⊎ (y ≡ z)
around [] y back z (zero, h, e) = inr e
around [] y back z (suc k, h, e) = inl (k, omega (arith, h), e)
around (x ∷ front) y back z (zero, h, e) = inl (0, omega arith, e)
around (x ∷ front) y back z (suc k, h, e) =
    elim (around front y back z (k, omega (arith, h), e)) [ inl c ↦ inl (later z x (front ++ back) c) | inr is ↦ inr is ]

one_more : {A : Type 0} (front : List A) (y : A) (back : List A) → length (front ++ y ∷ back) ≡ suc (length (front ++ back))
one_more [] y back = refl
one_more (x ∷ front) y back = ap suc (one_more front y back)

-- a list whose elements are apart is no longer than one that has one of each kind
no_longer : {A : Type 0} (R : A → A → Type 0) (flip : (x y : A) → R x y → R y x) (join : (x y z : A) → R x y → R y z → R x z) (xs ys : List A) →
    AllPairs (λ x y. ¬ R x y) xs → ((x : A) → Contains xs x → (y : A) × Contains ys y × R x y) → length xs ≤ length ys
no_longer R flip join [] ys apart has = omega arith
no_longer R flip join (x ∷ xs) ys apart has =
    let (y, in_ys, r) = has x (0, omega arith, refl) in
    let (front, back, is) = split ys y in_ys in
    let others : (z : _) → Contains xs z → (w : _) × Contains (front ++ back) w × R z w =
    λ z c. let (w, in_all, r') = has z (later z x xs c) in
    elim (around front y back w (subst (λ l. Contains l w) is in_all)) [
      | inl c' ↦ (w, c', r')
      | inr same ↦ absurd (apart_from z c (join x y z r (flip z y (subst (λ v. R z v) (sym same) r'))))
    ] in
    let rest : length xs ≤ length (front ++ back) = no_longer R flip join xs (front ++ back) (λ i j d h l. apart (suc i) (suc j) d (omega (arith, h)) (omega (arith, l))) others in
    let long : length ys ≡ suc (length (front ++ back)) = ap (λ l. length l) is ∙ one_more front y back in omega (arith, rest, long)
  where
    apart_from : (z : _) → Contains xs z → R x z → ⊥
    apart_from z (k, h, e) r = apart 0 (suc k) z (omega arith) (omega (arith, h)) (subst (λ w. R x w) (sym e) r)

module _ {L : Type 0} (step : ℕ → Tree L → Option (Tree L)) (q : Tree L) (Counts : L → Type 0) (k : ℕ) where
  abbrev pub Counted : Tree L → Type 0
  Counted t = Met step q k t × Counts (label t)

  first_of : (ts : List (Tree L)) (n : ℕ) → n ≤ length ts → All Counted ts → AllPairs (λ t u. ¬ Alike step q k t u) ts → HasDifferent step q Counts k n
  first_of ts n h all apart =
      let long : length (take n ts) ≡ n = length-take-le n ts h in
      let at : (i : ℕ) (d : Tree L) → i < length (take n ts) → slice_index_or (take n ts) i d ≡ slice_index_or ts i d =
      λ i d l. let low : i < n = omega (arith, l, long) in get_or-take n ts i d low in (
        take n ts,
        long,
        λ i d l. subst Counted (sym (at i d l)) (all i d (omega (arith, l, long, h))),
        λ i j d h' l. let low : i < length (take n ts) = omega (arith, h', l) in
            subst (λ w. ¬ Alike step q k w (slice_index_or (take n ts) j d)) (sym (at i d low))
            (subst (λ w. ¬ Alike step q k (slice_index_or ts i d) w) (sym (at j d l)) (apart i j d h' (omega (arith, l, long, h)))),
      )

  -- counting by a list of one each
  pub count_is : (ts : List (Tree L)) (n : ℕ) → IsOneOfEach step q Counts k ts → HasDifferent step q Counts k n ↔ (n ≤ length ts)
  count_is ts n full = (
    λ (us, long, all, apart). let h : length us ≤ length ts =
        no_longer (Alike step q k) (alike_sym step q k) (alike_trans step q k) us ts apart (λ x (i, low, e). full.each x (subst Counted e (all i x low))) in omega (arith, h, long),
    λ h. first_of ts n h full.counted full.apart,
  )
