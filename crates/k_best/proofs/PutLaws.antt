-- Lists that get longer, labels, and a goal's list that is entered.
use Rattle.std.proofs.Common.{◌≡◌, ◌≢◌, ℕ, zero, suc, ◌+◌, ◌-◌, ◌≤◌, ◌<◌, ◌^◌, List, [], ◌∷◌, ◌++◌, length, map, Option, Some, None, refl, ap, sym, ◌∙◌, subst, arith, inl, inr, length-append}
use Rattle.std.specs.Prelude.{◌⊎◌, ◌↔◌, slice_get, slice_set}
use Rattle.std.specs.List.{AllByRecursion}
use Rattle.pr_value.specs.Capped.{cap}
use Rattle.best_plan.specs.declared.solution.Solution.{Solution}
use Rattle.best_plan.specs.Moves.{Graph, AreChoices}
use Rattle.best_plan.specs.Solutions.{cost_in, SolvesAt, AreSound}
use Rattle.k_best.specs.declared.lists.Span.{Span}
use Rattle.k_best.specs.declared.index.Index.{Index}
use Rattle.k_best.specs.declared.lists.Lists.{Lists}
use Rattle.k_best.specs.Indexes.{IsIndexed}
use Rattle.k_best.specs.Showings.{Showing, paid, shown_in, shown, shown_at}
use Rattle.k_best.specs.BestLists.{IsShown, IsBest, Covers}
use Rattle.k_best.specs.Lists.{span_of, IsDone, InSpan, cost_at, label_at, number_in, AreLabelled, IsLabel, IsListed, AreRight}
use Rattle.k_best.specs.Picks.{IsPick, ArePicks, AllDone, shown_of}
use Rattle.k_best.proofs.ListLaws.{get_left, get_right, get_more, get_last, get_there, le_or_lt, same_or_not}
use Rattle.k_best.proofs.SetLaws.{set_same, set_other}
use Rattle.k_best.proofs.ShowingLaws.{shown_left, shown_flat, shown_long}
use Rattle.k_best.proofs.SolutionLaws.{sound_more}
use Rattle.k_best.proofs.ListedLaws.{ends, within_before, pick_solution, costs_capped}

pub best_same : (made : Showing → Type 0) (most n : ℕ) (f h : ℕ → Showing) → ((i : ℕ) → i < n → f i ≡ h i) → IsBest made most n f → IsBest made most n h
best_same made most n f h same best = record {
  few = best.few;
  rising = λ i j le l. subst (λ v. paid (h i) ≤ paid v) (same j l) (subst (λ v. paid v ≤ paid (f j)) (same i (omega (arith, le, l))) (best.rising i j le l));
  distinct = λ i j il jl e. best.distinct i j il jl (same i il ∙ e ∙ sym (same j jl));
  complete = λ v is. covers v (best.complete v is);
}
  where
    covers : (v : Showing) → Covers most n f v → Covers most n h v
    covers v (inl (i, l, e)) = inl (i, l, sym (same i l) ∙ e)
    covers v (inr (full, dear)) = inr (full, λ i l. subst (λ w. paid w ≤ paid v) (same i l) (dear i l))

label_left : (labels : List ℕ) (n at : ℕ) → at < length labels → label_at (labels ++ n ∷ []) at ≡ label_at labels at
label_left labels n at l = ap number_in (get_left labels (n ∷ []) at l)

label_last : (labels : List ℕ) (n at : ℕ) → at ≡ length labels → label_at (labels ++ n ∷ []) at ≡ n
label_last labels n at e = ap number_in (ap (slice_get (labels ++ n ∷ [])) e ∙ get_last labels n)

module _ (face : ℕ → ℕ → ℕ) (ss : List Solution) (labels : List ℕ) (n : ℕ) (old : AreLabelled face ss labels) (is : IsLabel face ss labels (length labels) n) where
  new_low : IsLabel face ss labels (length labels) n → n ≤ length labels
  new_low (inl (b, l, e, same)) = omega (arith, e, l, old.low b l)
  new_low (inr (e, none)) = omega (arith, e)

  -- an earlier label and the new one
  new_same : (a : ℕ) → a < length labels → IsLabel face ss labels (length labels) n → (label_at labels a ≡ n) ↔ (shown_at (shown face ss) a ≡ shown_at (shown face ss) (length labels))
  new_same a l (inl (b, bl, e, same)) = (λ h. (old.same a b l bl).0 (h ∙ e) ∙ same, λ h. (old.same a b l bl).1 (h ∙ sym same) ∙ sym e)
  new_same a l (inr (e, none)) = (λ h. absurd (omega (arith, h, e, l, old.low a l)), λ h. absurd (none a l h))

  pub labelled_more : AreLabelled face ss (labels ++ n ∷ [])
  labelled_more = record {
    low = λ at l. low at (place at l);
    same = λ a b al bl. same a b (place a al) (place b bl);
  }
    where
      place : (at : ℕ) → at < length (labels ++ n ∷ []) → (at < length labels) ⊎ (at ≡ length labels)
      place at l = elim (le_or_lt (length labels) at) [ inl h ↦ inr (omega (arith, h, l, length-append labels (n ∷ []))) | inr h ↦ inl h ]

      low : (at : ℕ) → (at < length labels) ⊎ (at ≡ length labels) → label_at (labels ++ n ∷ []) at ≤ at
      low at (inl l) = omega (arith, label_left labels n at l, old.low at l)
      low at (inr e) = omega (arith, label_last labels n at e, new_low is, e)

      same : (a b : ℕ) → (a < length labels) ⊎ (a ≡ length labels) → (b < length labels) ⊎ (b ≡ length labels)
          → (label_at (labels ++ n ∷ []) a ≡ label_at (labels ++ n ∷ []) b) ↔ (shown_at (shown face ss) a ≡ shown_at (shown face ss) b)
      same a b (inl al) (inl bl) =
          (λ h. (old.same a b al bl).0 (sym (label_left labels n a al) ∙ h ∙ label_left labels n b bl), λ h. label_left labels n a al ∙ (old.same a b al bl).1 h ∙ sym (label_left labels n b bl))
      same a b (inl al) (inr be) =
          let at = ap (shown_at (shown face ss)) be in
          (λ h. (new_same a al is).0 (sym (label_left labels n a al) ∙ h ∙ label_last labels n b be) ∙ sym at, λ h. label_left labels n a al ∙ (new_same a al is).1 (h ∙ at) ∙ sym (label_last labels n b be))
      same a b (inr ae) (inl bl) =
          let at = ap (shown_at (shown face ss)) ae in
          (λ h. at ∙ sym ((new_same b bl is).0 (sym (label_left labels n b bl) ∙ sym h ∙ label_last labels n a ae)), λ h. label_last labels n a ae ∙ sym ((new_same b bl is).1 (sym h ∙ at)) ∙ sym (label_left labels n b bl))
      same a b (inr ae) (inr be) =
          (λ h. ap (shown_at (shown face ss)) (ae ∙ sym be), λ h. label_last labels n a ae ∙ sym (label_last labels n b be))

pub labelled_on : (face : ℕ → ℕ → ℕ) (ss xs : List Solution) (labels : List ℕ) → length labels ≤ length ss → AreLabelled face ss labels → AreLabelled face (ss ++ xs) labels
labelled_on face ss xs labels l old = record {
  low = old.low;
  same = λ a b al bl. (
      let ea = shown_left face ss xs a (omega (arith, al, l)) in let eb = shown_left face ss xs b (omega (arith, bl, l)) in
      (λ h. ea ∙ (old.same a b al bl).0 h ∙ sym eb, λ h. (old.same a b al bl).1 (sym ea ∙ h ∙ eb)));
}

-- a goal's list is still its list when more solutions stand behind
listed_on : (m : Graph) (face : ℕ → ℕ → ℕ) (most : ℕ) (ss xs : List Solution) (g : ℕ) (p : Span) → IsListed m face most ss g p → IsListed m face most (ss ++ xs) g p
listed_on m face most ss xs g p old = record {
  within = omega (arith, old.within, length-append ss xs);
  solves = λ at h. (let is = old.solves at h in (is.0, get_more ss xs at is.0 is.1, is.2));
  best = best_same (IsShown m face g) most p.count (λ i. shown_at (shown face ss) (p.start + i)) (λ i. shown_at (shown face (ss ++ xs)) (p.start + i))
      (λ i l. sym (shown_left face ss xs (p.start + i) (omega (arith, l, old.within)))) old.best;
}

all_places : (P : Solution → Type 0) (xs : List Solution) → ((i : ℕ) (x : Solution) → slice_get xs i ≡ Some x → P x) → AllByRecursion P xs
all_places P [] each = tt
all_places P (x ∷ xs) each = (each zero x refl, all_places P xs (λ i y e. each (suc i) y e))

module _ (m : Graph) (laws : AreChoices m) (face : ℕ → ℕ → ℕ) (most : ℕ) (l : Lists) (right : AreRight m face most l) (g : ℕ) (chosen : List Solution)
    (picks : ArePicks m l g chosen) (done : (k : ℕ) → k < m.count g → AllDone m l g k) where
  pick_done : (s : Solution) → IsPick m l g s → AllDone m l g s.k
  pick_done s pick = done s.k pick.alternative.2

  pub put_sound : AreSound m (l.solutions ++ chosen)
  put_sound = sound_more m l.solutions chosen right.sound (λ i s e. pick_solution m face most l right g s (pick_done s (picks i s e)) (picks i s e))

  pub put_capped : (at : ℕ) → cost_at (l.solutions ++ chosen) at ≤ cap
  put_capped at = by_order (le_or_lt (length l.solutions) at) where
    by_place : (i : ℕ) (o : Option Solution) → slice_get chosen i ≡ o → cost_in o ≤ cap
    by_place i None e = omega arith
    by_place i (Some s) e = omega (arith, (picks i s e).cost, laws.bounded g s.k (map (cost_at l.solutions) s.inputs) (picks i s e).alternative (costs_capped l.solutions right.capped s.inputs))

    by_order : (length l.solutions ≤ at) ⊎ (at < length l.solutions) → cost_at (l.solutions ++ chosen) at ≤ cap
    by_order (inl h) =
        let e = ap cost_in (get_right l.solutions chosen (at - length l.solutions) at (omega (arith, h))) in
        omega (arith, e, by_place (at - length l.solutions) (slice_get chosen (at - length l.solutions)) refl)
    by_order (inr h) = let e = ap cost_in (get_left l.solutions chosen at h) in omega (arith, e, right.capped at)

  put_solves : (at : ℕ) → InSpan (record { start = length l.solutions; count = length chosen }) at → SolvesAt (l.solutions ++ chosen) g at
  put_solves at h =
      let i = at - length l.solutions in
      let s = get_there chosen i (omega (arith, h.0, h.1)) in
      (s.0, get_right l.solutions chosen i at (omega (arith, h.0)) ∙ s.1, (picks i s.0 s.1).goal)

  put_shown : shown face (l.solutions ++ chosen) ≡ shown face l.solutions ++ shown_of face l chosen
  put_shown = shown_flat face l.solutions chosen (all_places (λ s. AllByRecursion (λ at. at < length l.solutions) s.inputs) chosen
      (λ i s e. within_before l.spans (length l.solutions) (ends m face most l right) (m.alternative g s.k).inputs s.inputs (picks i s e).within))

  module _ (best : IsBest (IsShown m face g) most (length chosen) (shown_at (shown_of face l chosen))) where
    put_listed : IsListed m face most (l.solutions ++ chosen) g (record { start = length l.solutions; count = length chosen })
    put_listed = record {
      within = omega (arith, length-append l.solutions chosen);
      solves = put_solves;
      best = best_same (IsShown m face g) most (length chosen) (shown_at (shown_of face l chosen)) (λ i. shown_at (shown face (l.solutions ++ chosen)) (length l.solutions + i))
          (λ i h. sym (ap (λ all. shown_at all (length l.solutions + i)) put_shown ∙ ap shown_in (get_right (shown face l.solutions) (shown_of face l chosen) i (length l.solutions + i) (omega (arith, shown_long face l.solutions))))) best;
    }

    -- the lists are right with the goal's list entered
    pub put_right : (labels : List ℕ) (index : Index) → AreLabelled face (l.solutions ++ chosen) labels → length index.marks ≡ length labels → IsIndexed (shown face (l.solutions ++ chosen)) index
        → length labels ≡ length (l.solutions ++ chosen) → length (l.solutions ++ chosen) < 2 ^ 64 → g < length l.spans
        → AreRight m face most (record { solutions = l.solutions ++ chosen; labels = labels; spans = slice_set l.spans g (Some (record { start = length l.solutions; count = length chosen })); index = index })
    put_right labels index labelled marked indexed long short there = record {
      sound = put_sound;
      capped = put_capped;
      short = short;
      long = long;
      labelled = labelled;
      marked = marked;
      indexed = indexed;
      listed = λ h p e. listed h p e (same_or_not h g);
    }
      where
        is_span : (o : Option (Option Span)) (p q : Span) → o ≡ Some (Some q) → span_of o ≡ Some p → q ≡ p
        is_span o p q e f = cc

        listed : (h : ℕ) (p : Span) → span_of (slice_get (slice_set l.spans g (Some (record { start = length l.solutions; count = length chosen }))) h) ≡ Some p → (h ≡ g) ⊎ (h ≢ g) → IsListed m face most (l.solutions ++ chosen) h p
        listed h p e (inl same) =
            let all = slice_set l.spans g (Some (record { start = length l.solutions; count = length chosen })) in
            let at : slice_get all h ≡ Some (Some (record { start = length l.solutions; count = length chosen })) = ap (slice_get all) same ∙ set_same l.spans g (Some (record { start = length l.solutions; count = length chosen })) there in
            subst (IsListed m face most (l.solutions ++ chosen) h) (is_span (slice_get all h) p (record { start = length l.solutions; count = length chosen }) at e)
            (subst (λ x. IsListed m face most (l.solutions ++ chosen) x (record { start = length l.solutions; count = length chosen })) (sym same) put_listed)
        listed h p e (inr other) = listed_on m face most l.solutions chosen h p (right.listed h p (ap span_of (sym (set_other l.spans g h (Some (record { start = length l.solutions; count = length chosen })) other)) ∙ e))

    pub put_right_at : (ss : List Solution) (labels : List ℕ) (spans : List (Option Span)) (index : Index) → ss ≡ l.solutions ++ chosen
        → spans ≡ slice_set l.spans g (Some (record { start = length l.solutions; count = length chosen })) → AreLabelled face ss labels → length index.marks ≡ length labels → IsIndexed (shown face ss) index
        → length labels ≡ length ss → length ss < 2 ^ 64 → g < length l.spans → AreRight m face most (record { solutions = ss; labels = labels; spans = spans; index = index })
    put_right_at ss labels spans index es ep labelled marked indexed long short there =
        subst (λ all. AreRight m face most (record { solutions = ss; labels = labels; spans = all; index = index })) (sym ep)
        (subst (λ all. AreRight m face most (record { solutions = all; labels = labels; spans = slice_set l.spans g (Some (record { start = length l.solutions; count = length chosen })); index = index })) (sym es)
        (put_right labels index (subst (λ all. AreLabelled face all labels) es labelled) marked (subst (λ all. IsIndexed (shown face all) index) es indexed) (long ∙ ap length es) (subst (λ all. length all < 2 ^ 64) es short) there))

-- a goal that had a list has one, and so has the goal that was entered
pub done_set : (spans : List (Option Span)) (g : ℕ) (p : Span) → g < length spans → IsDone (slice_set spans g (Some p)) g
done_set spans g p l = (p, ap span_of (set_same spans g (Some p) l))

pub done_kept : (spans : List (Option Span)) (g : ℕ) (p : Span) → g < length spans → (h : ℕ) → IsDone spans h → IsDone (slice_set spans g (Some p)) h
done_kept spans g p l h done = by_goal (same_or_not h g) where
  by_goal : (h ≡ g) ⊎ (h ≢ g) → IsDone (slice_set spans g (Some p)) h
  by_goal (inl same) = subst (IsDone (slice_set spans g (Some p))) (sym same) (done_set spans g p l)
  by_goal (inr other) = (done.0, ap span_of (set_other spans g h (Some p) other) ∙ done.1)

pub set_is : (old mid new : List (Option Span)) (g start count a b : ℕ) → new ≡ slice_set mid g (Some (record { start = a; count = b })) → mid ≡ old → a ≡ start → b ≡ count
    → new ≡ slice_set old g (Some (record { start = start; count = count }))
set_is old mid new g start count a b e f x y =
    e ∙ ap (λ (spans : List (Option Span)). slice_set spans g (Some (record { start = a; count = b }))) f
    ∙ ap (λ (n : ℕ). slice_set old g (Some (record { start = n; count = b }))) x
    ∙ ap (λ (n : ℕ). slice_set old g (Some (record { start = start; count = n }))) y
