-- What the numbers of terms stand for.
use Rattle.std.proofs.Common.{◌≡◌, ℕ, zero, suc, ◌<◌, List, [], ◌∷◌, length, take, Some, slice_get, slice_set, refl, ap, sym, ◌∙◌, subst, arith}
use Rattle.std.specs.Prelude.{All}
use Rattle.pr_value.specs.Trees.{Tree, node, Trees, nil, cons, list_of, trees_of, input, with_input}
use Rattle.derivation.specs.declared.terms.Term.{Term}
use Rattle.derivation.specs.Table.{term, AreDistinct, AreEarlier}
use Rattle.derivation.specs.Stands.{Stands, StandAll}
use Rattle.derivation.specs.Made.{IsInput, PartOf}

some_is : {A : Type 0} (a b : A) → Some a ≡ Some b → a ≡ b
some_is a b e = cc

module _ {L : Type 0} (ts : List (Term L)) where
  -- a number stands for one tree
  mutual
    unfolding Stands

    pub one_tree : (n : ℕ) (t u : Tree L) → Stands ts n t → Stands ts n u → t ≡ u
    one_tree n (node a us) (node b vs) h k =
        let same : h.0 ≡ k.0 = some_is h.0 k.0 (sym h.1 ∙ k.1) in
        let labels : a ≡ b = sym h.2 ∙ ap (λ (x : Term L). x.label) same ∙ k.2 in
        λ i. node (labels i) (one_row h.0.inputs us vs h.3 (subst (λ (x : Term L). StandAll ts x.inputs vs) (sym same) k.3) i)

    pub one_row : (ns : List ℕ) (us vs : Trees L) → StandAll ts ns us → StandAll ts ns vs → us ≡ vs
    one_row [] nil nil h k = refl
    one_row (n ∷ ns) (cons t us) (cons u vs) h k = λ i. cons (one_tree n t u h.0 k.0 i) (one_row ns us vs h.1 k.1 i)
    one_row [] (cons t us) vs h k = absurd h
    one_row [] nil (cons u vs) h k = absurd k
    one_row (n ∷ ns) nil vs h k = absurd h
    one_row (n ∷ ns) (cons t us) nil h k = absurd k

  -- a tree has one number
  mutual
    unfolding Stands

    pub one_number : AreDistinct ts → (m n : ℕ) (t : Tree L) → Stands ts m t → Stands ts n t → m ≡ n
    one_number d m n (node l us) h k =
        let rows : h.0.inputs ≡ k.0.inputs = one_numbers d h.0.inputs k.0.inputs us h.3 k.3 in
        let same : h.0 ≡ k.0 = (λ i. record { label = (h.2 ∙ sym k.2) i; inputs = rows i }) in
        d m n h.0 h.1 (k.1 ∙ ap Some (sym same))

    pub one_numbers : AreDistinct ts → (ms ns : List ℕ) (us : Trees L) → StandAll ts ms us → StandAll ts ns us → ms ≡ ns
    one_numbers d [] [] nil h k = refl
    one_numbers d (m ∷ ms) (n ∷ ns) (cons u us) h k = λ i. one_number d m n u h.0 k.0 i ∷ one_numbers d ms ns us h.1 k.1 i
    one_numbers d [] (n ∷ ns) nil h k = absurd k
    one_numbers d (m ∷ ms) ns nil h k = absurd h
    one_numbers d [] ns (cons u us) h k = absurd h
    one_numbers d (m ∷ ms) [] (cons u us) h k = absurd k

-- terms that are there stay
abbrev pub Keeps : {A : Type 0} → List A → List A → Type 0
Keeps {A} old new = (i : ℕ) (x : A) → slice_get old i ≡ Some x → slice_get new i ≡ Some x

pub keeps_of_take : {A : Type 0} (old new : List A) → take (length old) new ≡ old → Keeps old new
keeps_of_take [] new e i x h = cc
keeps_of_take (y ∷ old) [] e i x h = cc
keeps_of_take (y ∷ old) (z ∷ new) e zero x h = let same : y ≡ z = cc in ap Some (sym same) ∙ h
keeps_of_take (y ∷ old) (z ∷ new) e (suc i) x h = let rest : take (length old) new ≡ old = cc in keeps_of_take old new rest i x h

module _ {L : Type 0} (old new : List (Term L)) (keeps : Keeps old new) where
  mutual
    unfolding Stands

    pub stands_still : (n : ℕ) (t : Tree L) → Stands old n t → Stands new n t
    stands_still n (node l us) h = (h.0, keeps n h.0 h.1, h.2, stand_still h.0.inputs us h.3)

    pub stand_still : (ns : List ℕ) (us : Trees L) → StandAll old ns us → StandAll new ns us
    stand_still [] nil h = tt
    stand_still (n ∷ ns) (cons u us) h = (stands_still n u h.0, stand_still ns us h.1)
    stand_still [] (cons u us) h = absurd h
    stand_still (n ∷ ns) nil h = absurd h

module _ {L : Type 0} (ts : List (Term L)) where
  -- the inputs of a term stand for the inputs of its tree
  row_input : (ns : List ℕ) (us : Trees L) (i m : ℕ) → StandAll ts ns us → slice_get ns i ≡ Some m → (u : Tree L) × (slice_get (list_of us) i ≡ Some u) × Stands ts m u
  unfolding Stands
  row_input [] us i m h e = cc
  row_input (n ∷ ns) nil i m h e = absurd h
  row_input (n ∷ ns) (cons u us) zero m h e = (u, refl, subst (λ k. Stands ts k u) (some_is n m e) h.0)
  row_input (n ∷ ns) (cons u us) (suc i) m h e = row_input ns us i m h.1 e

  pub input_stands : (n i m : ℕ) (t : Tree L) → Stands ts n t → IsInput ts n i m → (u : Tree L) × (input t i ≡ Some u) × Stands ts m u
  unfolding Stands
  input_stands n i m (node l us) h k =
      let same : k.0 ≡ h.0 = some_is k.0 h.0 (sym k.1 ∙ h.1) in
      row_input h.0.inputs us i m h.3 (ap (λ (x : Term L). slice_get x.inputs i) (sym same) ∙ k.2)

  row_set : (ns : List ℕ) (us : Trees L) (i m : ℕ) (u : Tree L) → StandAll ts ns us → Stands ts m u → StandAll ts (slice_set ns i m) (trees_of (slice_set (list_of us) i u))
  unfolding Stands
  row_set [] nil i m u h k = tt
  row_set [] (cons v us) i m u h k = absurd h
  row_set (n ∷ ns) nil i m u h k = absurd h
  row_set (n ∷ ns) (cons v us) zero m u h k = (k, same_row ns us h.1)
    where
      same_row : (ns : List ℕ) (us : Trees L) → StandAll ts ns us → StandAll ts ns (trees_of (list_of us))
      same_row [] nil h = tt
      same_row (n ∷ ns) (cons v us) h = (h.0, same_row ns us h.1)
      same_row [] (cons v us) h = absurd h
      same_row (n ∷ ns) nil h = absurd h
  row_set (n ∷ ns) (cons v us) (suc i) m u h k = (h.0, row_set ns us i m u h.1 k)

  -- a term with another input stands for the tree with another input
  pub part_stands : (n i m r : ℕ) (t u : Tree L) → Stands ts n t → Stands ts m u → PartOf ts n i m r → Stands ts r (with_input t i u)
  unfolding Stands
  part_stands n i m r (node l us) u h k p =
      let same : p.0 ≡ h.0 = some_is p.0 h.0 (sym p.1 ∙ h.1) in (
        term p.0.label (slice_set p.0.inputs i m),
        p.2,
        ap (λ (x : Term L). x.label) same ∙ h.2,
        row_set p.0.inputs us i m u (subst (λ (x : Term L). StandAll ts x.inputs us) (sym same) h.3) k,
      )

got : {A : Type 0} (xs : List A) (i : ℕ) → i < length xs → (x : A) × (slice_get xs i ≡ Some x)
got [] i h = let n : ⊥ = omega (arith, h) in absurd n
got (x ∷ xs) zero h = (x, refl)
got (x ∷ xs) (suc i) h = got xs i (omega (arith, h))

module _ {L : Type 0} (ts : List (Term L)) (earlier : AreEarlier ts) where
  rows_below : (k : ℕ) → ((n : ℕ) → n < k → n < length ts → (t : Tree L) × Stands ts n t) → (ns : List ℕ) → All (λ m. m < k) ns → All (λ m. m < length ts) ns → (us : Trees L) × StandAll ts ns us
  unfolding Stands
  rows_below k below [] a b = (nil, tt)
  rows_below k below (n ∷ ns) a b =
      let (u, h) = below n (a 0 0 (omega arith)) (b 0 0 (omega arith)) in
      let (us, hs) = rows_below k below ns (λ i d w. a (suc i) d (omega (arith, w))) (λ i d w. b (suc i) d (omega (arith, w))) in
      (cons u us, (h, hs))

  stands_below : (k n : ℕ) → n < k → n < length ts → (t : Tree L) × Stands ts n t
  unfolding Stands
  stands_below zero n h there = let e : ⊥ = omega (arith, h) in absurd e
  stands_below (suc k) n h there =
      let (t, is) = got ts n there in
      let (us, row) = rows_below k (stands_below k) t.inputs (λ i d w. let b = earlier n t is i d w in omega (arith, b, h)) (λ i d w. let b = earlier n t is i d w in omega (arith, b, there)) in
      (node t.label us, (t, is, refl, row))

  -- each number that is there stands for a tree
  pub stands_for : (n : ℕ) → n < length ts → (t : Tree L) × Stands ts n t
  stands_for n there = stands_below (suc n) n (omega arith) there
