-- What right sides make, side by side, of descriptors that are handed on.
use Rattle.std.proofs.Common.{◌≡◌, ℕ, suc, ◌+◌, ◌≤◌, List, [], ◌∷◌, ◌++◌, length, drop, refl, ap, sym, ◌∙◌, subst, arith, append_assoc, append-nil}
use Rattle.std.proofs.lemmas.List.{drop_all}
use Rattle.descriptor_types.specs.Descriptors.{Desc}
use Rattle.pr_value.specs.Trees.{Trees, node, nil, cons, list_of, trees_of}
use Rattle.rule_runs.specs.Laws.{Suffice, AllSuffice, operators_of, all_operators_of}
use Rattle.rule_runs.specs.Making.{made_with, all_made_with}
use Rattle.rule_runs.specs.Sides.{Side, SideLabel, operator, stream}

module _ {A : Type 0} (over : ℕ → Desc → List A → A) (nothing : A) (streams : List A) where
  abbrev one : Side → List Desc → A × List Desc
  one = made_with over nothing streams

  abbrev all : Trees SideLabel → List Desc → List A × List Desc
  all = all_made_with over nothing streams

  -- what is made so far, and what the rest makes, is what all make
  abbrev pub GoesOn : List Side → List Desc → ℕ → List A → List Desc → Type 0
  GoesOn ss ds i done rest = (done ++ (all (trees_of (drop i ss)) rest).0, (all (trees_of (drop i ss)) rest).1) ≡ all (trees_of ss) ds

  pub goes-first : (ss : List Side) (ds : List Desc) → GoesOn ss ds 0 [] ds
  goes-first ss ds = refl

  pub goes-next : (ss : List Side) (ds rest left : List Desc) (i : ℕ) (s : Side) (done : List A) (a : A) → drop i ss ≡ s ∷ drop (suc i) ss → (a, left) ≡ one s rest → GoesOn ss ds i done rest → GoesOn ss ds (i + 1) (done ++ a ∷ []) left
  goes-next ss ds rest left i s done a sides made so_far =
      let next : i + 1 ≡ suc i = omega arith in
      let ts = trees_of (drop (suc i) ss) in
      let here : ((done ++ (one s rest).0 ∷ []) ++ (all ts (one s rest).1).0, (all ts (one s rest).1).1) ≡ all (trees_of ss) ds =
      ap (λ (xs : List A). (xs, (all ts (one s rest).1).1)) (append_assoc done ((one s rest).0 ∷ []) (all ts (one s rest).1).0)
      ∙ (ap (λ (xs : List Side). (done ++ (all (trees_of xs) rest).0, (all (trees_of xs) rest).1)) (sym sides) ∙ so_far) in
      ap (λ (n : ℕ). ((done ++ a ∷ []) ++ (all (trees_of (drop n ss)) left).0, (all (trees_of (drop n ss)) left).1)) next
      ∙ subst (λ (p : A × List Desc). ((done ++ p.0 ∷ []) ++ (all ts p.1).0, (all ts p.1).1) ≡ all (trees_of ss) ds) (sym made) here

  pub goes-all : (ss : List Side) (ds rest : List Desc) (i : ℕ) (done : List A) → length ss ≤ i → GoesOn ss ds i done rest → (done, rest) ≡ all (trees_of ss) ds
  goes-all ss ds rest i done past so_far =
      ap (λ (xs : List A). (xs, rest)) (sym (append-nil done)) ∙ (ap (λ (xs : List Side). (done ++ (all (trees_of xs) rest).0, (all (trees_of xs) rest).1)) (sym (drop_all i ss past)) ∙ so_far)

  -- ---- what is left

  mutual
    pub left-over : (s : Side) (ds : List Desc) → operators_of s ≤ length ds → length (one s ds).1 + operators_of s ≡ length ds
    left-over (node (operator op) rs) [] enough = absurd (omega (arith, enough))
    left-over (node (operator op) rs) (d ∷ ds) enough = let h = all-left-over rs ds (omega (arith, enough)) in omega (arith, h)
    left-over (node (stream n) rs) ds enough = omega arith

    pub all-left-over : (ss : Trees SideLabel) (ds : List Desc) → all_operators_of ss ≤ length ds → length (all ss ds).1 + all_operators_of ss ≡ length ds
    all-left-over nil ds enough = omega arith
    all-left-over (cons s ss) ds enough =
        let first = left-over s ds (omega (arith, enough)) in
        let rest = all-left-over ss (one s ds).1 (omega (arith, enough, first)) in
        omega (arith, first, rest)

  -- what suffices for the sides from a place on suffices for the one there, and what it leaves for the others
  pub suffice-first : (k n i : ℕ) (ss : List Side) (s : Side) → drop i ss ≡ s ∷ drop (suc i) ss → AllSuffice k n (trees_of (drop i ss)) → Suffice k n s
  suffice-first k n i ss s sides enough =
      let h : AllSuffice k n (cons s (trees_of (drop (suc i) ss))) = subst (λ (xs : List Side). AllSuffice k n (trees_of xs)) sides enough in
      let e = h.nodes in
      record { nodes = omega (arith, e); within = h.within.0 }

  pub suffice-rest : (k i : ℕ) (ss : List Side) (s : Side) (rest left : List Desc) (a : A) → drop i ss ≡ s ∷ drop (suc i) ss → (a, left) ≡ one s rest → AllSuffice k (length rest) (trees_of (drop i ss)) → AllSuffice k (length left) (trees_of (drop (i + 1) ss))
  suffice-rest k i ss s rest left a sides made enough =
      let next : suc i ≡ i + 1 = omega arith in
      let h : AllSuffice k (length rest) (cons s (trees_of (drop (suc i) ss))) = subst (λ (xs : List Side). AllSuffice k (length rest) (trees_of xs)) sides enough in
      let e = h.nodes in
      let over_first = left-over s rest (omega (arith, e)) in
      let long : length left ≡ length (one s rest).1 = ap (λ (p : A × List Desc). length p.1) made in
      subst (λ (n : ℕ). AllSuffice k (length left) (trees_of (drop n ss))) next (record { nodes = omega (arith, e, over_first, long); within = h.within.1 })

  -- a thing for each side
  pub made-long : (ss : Trees SideLabel) (ds : List Desc) → length (all ss ds).0 ≡ length (list_of ss)
  made-long nil ds = refl
  made-long (cons s ss) ds = ap suc (made-long ss (one s ds).1)
