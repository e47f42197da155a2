-- What the solutions of a list show, where the list grows.
use Rattle.std.proofs.Common.{◌≡◌, ℕ, zero, suc, ◌+◌, ◌≤◌, ◌<◌, List, [], ◌∷◌, ◌++◌, length, map, take, drop, Option, Some, None, refl, ap, sym, ◌∙◌, arith, append_assoc, length-append}
use Rattle.std.specs.Prelude.{slice_get}
use Rattle.std.specs.List.{AllByRecursion}
use Rattle.std.proofs.lemmas.List.{append-nil, take-append-drop}
use Rattle.best_plan.specs.declared.solution.Solution.{Solution}
use Rattle.best_plan.specs.Solutions.{cost_in}
use Rattle.k_best.specs.Showings.{Showing, shows, paid, row, shown_in, shown_at, shown_by, shown_after, shown}
use Rattle.k_best.specs.Lists.{cost_at}
use Rattle.k_best.proofs.ListLaws.{some_same, get_left, get_right}

pub same_map : {A : Type 0} (f g : ℕ → A) (n : ℕ) → ((i : ℕ) → i < n → f i ≡ g i) → (ats : List ℕ) → AllByRecursion (λ at. at < n) ats → map f ats ≡ map g ats
same_map f g n same [] h = refl
same_map f g n same (at ∷ ats) h = let a = same at h.0 in let b = same_map f g n same ats h.1 in cc

module _ (face : ℕ → ℕ → ℕ) where
  pub after_append : (vs : List Showing) (xs ys : List Solution) → shown_after face vs (xs ++ ys) ≡ shown_after face (shown_after face vs xs) ys
  after_append vs [] ys = refl
  after_append vs (x ∷ xs) ys = after_append (vs ++ shown_by face vs x ∷ []) xs ys

  pub after_more : (vs : List Showing) (xs : List Solution) → (more : List Showing) × (shown_after face vs xs ≡ vs ++ more) × (length more ≡ length xs)
  after_more vs [] = ([], sym (append-nil vs), refl)
  after_more vs (x ∷ xs) =
      let h = after_more (vs ++ shown_by face vs x ∷ []) xs in
      (shown_by face vs x ∷ h.0, h.1 ∙ append_assoc vs (shown_by face vs x ∷ []) h.0, ap suc h.2)

  pub shown_long : (xs : List Solution) → length (shown face xs) ≡ length xs
  shown_long xs = let h = after_more [] xs in ap length h.1 ∙ h.2

  after_there : (vs : List Showing) (xs : List Solution) (i : ℕ) (s : Solution) → slice_get xs i ≡ Some s
      → slice_get (shown_after face vs xs) (length vs + i) ≡ Some (shown_by face (shown_after face vs (take i xs)) s)
  after_there vs [] i s e = cc
  after_there vs (x ∷ xs) zero s e =
      let h = after_more (vs ++ shown_by face vs x ∷ []) xs in
      let cut : shown_after face vs (x ∷ xs) ≡ vs ++ shown_by face vs x ∷ h.0 = h.1 ∙ append_assoc vs (shown_by face vs x ∷ []) h.0 in
      ap (λ all. slice_get all (length vs + 0)) cut
      ∙ get_right vs (shown_by face vs x ∷ h.0) 0 (length vs + 0) refl
      ∙ ap (λ t. Some (shown_by face vs t)) (some_same x s e)
  after_there vs (x ∷ xs) (suc i) s e =
      let place : length vs + suc i ≡ length (vs ++ shown_by face vs x ∷ []) + i = omega (arith, length-append vs (shown_by face vs x ∷ [])) in
      ap (slice_get (shown_after face vs (x ∷ xs))) place ∙ after_there (vs ++ shown_by face vs x ∷ []) xs i s e

  -- each shows what it shows from those before it
  pub shown_there : (xs : List Solution) (i : ℕ) (s : Solution) → slice_get xs i ≡ Some s → shown_at (shown face xs) i ≡ shown_by face (shown face (take i xs)) s
  shown_there xs i s e =
      let place : i ≡ 0 + i = omega arith in
      ap (shown_at (shown face xs)) place ∙ ap shown_in (after_there [] xs i s e)

  pub shown_left : (xs ys : List Solution) (i : ℕ) → i < length xs → shown_at (shown face (xs ++ ys)) i ≡ shown_at (shown face xs) i
  shown_left xs ys i l =
      let h = after_more (shown face xs) ys in
      ap (λ all. shown_at all i) (after_append [] xs ys ∙ h.1) ∙ ap shown_in (get_left (shown face xs) h.0 i (omega (arith, l, shown_long xs)))

  pub shown_take : (n : ℕ) (xs : List Solution) (i : ℕ) → i < length (take n xs) → shown_at (shown face (take n xs)) i ≡ shown_at (shown face xs) i
  shown_take n xs i l = sym (shown_left (take n xs) (drop n xs) i l) ∙ ap (λ all. shown_at (shown face all) i) (take-append-drop n xs)

  pub by_same : (vs ws : List Showing) (n : ℕ) → ((i : ℕ) → i < n → shown_at vs i ≡ shown_at ws i) → (s : Solution) → AllByRecursion (λ at. at < n) s.inputs → shown_by face vs s ≡ shown_by face ws s
  by_same vs ws n same s h = ap (λ all. shows (face s.goal s.k) s.cost (row all)) (same_map (shown_at vs) (shown_at ws) n same s.inputs h)

  pub long_take : (xs : List Solution) (i : ℕ) (s : Solution) → slice_get xs i ≡ Some s → length (take i xs) ≡ i
  long_take [] i s e = cc
  long_take (x ∷ xs) zero s e = refl
  long_take (x ∷ xs) (suc i) s e = ap suc (long_take xs i s e)

  -- and from all of the list, if its inputs stand before it
  pub shown_here : (xs : List Solution) (i : ℕ) (s : Solution) → slice_get xs i ≡ Some s → AllByRecursion (λ at. at < i) s.inputs → shown_at (shown face xs) i ≡ shown_by face (shown face xs) s
  shown_here xs i s e h = shown_there xs i s e ∙ by_same (shown face (take i xs)) (shown face xs) i (λ j l. shown_take i xs j (omega (arith, l, long_take xs i s e))) s h

  by_option : (xs : List Solution) (i : ℕ) (o : Option Solution) → slice_get xs i ≡ o → (slice_get xs i ≡ None → slice_get (shown face xs) i ≡ None) → paid (shown_at (shown face xs) i) ≡ cost_at xs i
  by_option xs i None e none = ap (λ o. paid (shown_in o)) (none e) ∙ sym (ap cost_in e)
  by_option xs i (Some s) e none = ap paid (shown_there xs i s e) ∙ sym (ap cost_in e)

  past : {A B : Type 0} (xs : List A) (ys : List B) (i : ℕ) → length xs ≡ length ys → slice_get xs i ≡ None → slice_get ys i ≡ None
  past [] [] i l e = refl
  past [] (y ∷ ys) i l e = absurd (omega (arith, l))
  past (x ∷ xs) [] i l e = refl
  past (x ∷ xs) (y ∷ ys) zero l e = cc
  past (x ∷ xs) (y ∷ ys) (suc i) l e = past xs ys i (omega (arith, l)) e

  -- the cost that is shown is the solution's
  pub paid_at : (xs : List Solution) (i : ℕ) → paid (shown_at (shown face xs) i) ≡ cost_at xs i
  paid_at xs i = by_option xs i (slice_get xs i) refl (past xs (shown face xs) i (sym (shown_long xs)))

  -- solutions whose inputs stand in the list show what they show from the list alone
  after_flat : (base vs : List Showing) (n : ℕ) → n ≤ length vs → ((i : ℕ) → i < n → shown_at vs i ≡ shown_at base i) → (xs : List Solution)
      → AllByRecursion (λ s. AllByRecursion (λ at. at < n) s.inputs) xs → shown_after face vs xs ≡ vs ++ map (shown_by face base) xs
  after_flat base vs n l same [] h = sym (append-nil vs)
  after_flat base vs n l same (x ∷ xs) h =
      let is : shown_by face vs x ≡ shown_by face base x = by_same vs base n same x h.0 in
      after_flat base (vs ++ shown_by face vs x ∷ []) n (omega (arith, l, length-append vs (shown_by face vs x ∷ [])))
      (λ i li. ap shown_in (get_left vs (shown_by face vs x ∷ []) i (omega (arith, l, li))) ∙ same i li) xs h.1
      ∙ append_assoc vs (shown_by face vs x ∷ []) (map (shown_by face base) xs) ∙ ap (λ v. vs ++ v ∷ map (shown_by face base) xs) is

  pub shown_flat : (xs ys : List Solution) → AllByRecursion (λ s. AllByRecursion (λ at. at < length xs) s.inputs) ys → shown face (xs ++ ys) ≡ shown face xs ++ map (shown_by face (shown face xs)) ys
  shown_flat xs ys h = after_append [] xs ys ∙ after_flat (shown face xs) (shown face xs) (length xs) (omega (arith, shown_long xs)) (λ i l. refl) ys h
