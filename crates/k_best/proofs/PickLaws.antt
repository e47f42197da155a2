-- The cheapest picks of one alternative.
use Rattle.std.proofs.Common.{◌≡◌, ℕ, zero, suc, ◌+◌, ◌≤◌, ◌<◌, List, [], ◌∷◌, ◌++◌, length, map, Option, Some, None, ap, sym, ◌∙◌, subst, arith, inl, inr, length-append}
use Rattle.std.specs.Prelude.{◌⊎◌, slice_get, slice_index}
use Rattle.std.specs.List.{AllZip}
use Rattle.best_plan.specs.declared.solution.Solution.{Solution}
use Rattle.best_plan.specs.Moves.{Graph, IsAlternative, AreChoices}
use Rattle.k_best.specs.declared.lists.Span.{Span}
use Rattle.k_best.specs.declared.lists.Lists.{Lists}
use Rattle.k_best.specs.Showings.{Showing, paid, shown, shown_at}
use Rattle.k_best.specs.BestLists.{IsShown}
use Rattle.k_best.specs.Lists.{span_at, AreWithin, EndBy, AreRight}
use Rattle.k_best.specs.Picks.{raise, cost_from, IsPick, AllDone, AreNear, starts_of, HasFirst, OnlyFirst, AreTaken, IsNext, AtMost, AtMostRaised, AtMostAll, AreShown, IsFrom, NoneDearer, AreCheapest}
use Rattle.k_best.proofs.ListLaws.{get_cases, get_more, get_within, at_or_before}
use Rattle.k_best.proofs.ListedLaws.{bests, costs_paid}
use Rattle.k_best.proofs.WalkLaws.{Place, Ends, total, first_place, place_within, place_costs, walk}

pub near_raise : (m : Graph) (l : Lists) (n j : ℕ) (gs ats : List ℕ) → AllZip (λ h at. at < (span_at l.spans h).start + n) gs ats → AllZip (λ h at. at < (span_at l.spans h).start + (n + 1)) gs (raise ats j)
near_raise m l n j [] [] h = h
near_raise m l n j [] (at ∷ ats) h = absurd h
near_raise m l n j (g ∷ gs) [] h = absurd h
near_raise m l n zero (g ∷ gs) (at ∷ ats) h = (omega (arith, h.0), near_more gs ats h.1) where
  near_more : (gs ats : List ℕ) → AllZip (λ h at. at < (span_at l.spans h).start + n) gs ats → AllZip (λ h at. at < (span_at l.spans h).start + (n + 1)) gs ats
  near_more [] [] h = tt
  near_more [] (at ∷ ats) h = absurd h
  near_more (g ∷ gs) [] h = absurd h
  near_more (g ∷ gs) (at ∷ ats) h = (omega (arith, h.0), near_more gs ats h.1)
near_raise m l n (suc j) (g ∷ gs) (at ∷ ats) h = (omega (arith, h.0), near_raise m l n j gs ats h.1)

pub near_on : (l : Lists) (n n' : ℕ) → n ≤ n' → (gs ats : List ℕ) → AllZip (λ h at. at < (span_at l.spans h).start + n) gs ats → AllZip (λ h at. at < (span_at l.spans h).start + n') gs ats
near_on l n n' le [] [] h = tt
near_on l n n' le [] (at ∷ ats) h = absurd h
near_on l n n' le (g ∷ gs) [] h = absurd h
near_on l n n' le (g ∷ gs) (at ∷ ats) h = (omega (arith, le, h.0), near_on l n n' le gs ats h.1)

pub near_starts : (l : Lists) (n : ℕ) → 0 < n → (gs : List ℕ) → AllZip (λ h at. at < (span_at l.spans h).start + n) gs (map (λ h. (span_at l.spans h).start) gs)
near_starts l n some [] = tt
near_starts l n some (g ∷ gs) = (omega (arith, some), near_starts l n some gs)

pub index_before : (spans : List (Option Span)) (n : ℕ) → EndBy spans n → (gs ats : List ℕ) (j : ℕ) → AreWithin spans gs ats → j < length ats → slice_index ats j < n
index_before spans n ends [] [] j h l = absurd (omega (arith, l))
index_before spans n ends [] (at ∷ ats) j h l = absurd h
index_before spans n ends (g ∷ gs) [] j h l = absurd h
index_before spans n ends (g ∷ gs) (at ∷ ats) zero h l = omega (arith, h.0.1, ends g)
index_before spans n ends (g ∷ gs) (at ∷ ats) (suc j) h l = index_before spans n ends gs ats j h.1 (omega (arith, l))

-- the cheaper of what was found so far and of what comes from the next that was taken
pub least_more : (m : Graph) (l : Lists) (g k : ℕ) (ps : List Solution) (best next : Option Solution) → ((c : ℕ) → AtMost best c → AtMost next c) → (n : ℕ) (s : Solution) → slice_get ps n ≡ Some s
    → AtMostRaised m l g k ps next s.inputs (length s.inputs) → AtMostAll m l g k ps best n → AtMostAll m l g k ps next (n + 1)
least_more m l g k ps best next low n s e raised old = λ i t il f. by_place i t f (at_or_before ps n i s t il e f) where
  by_place : (i : ℕ) (t : Solution) → slice_get ps i ≡ Some t → (i < n) ⊎ (s ≡ t) → AtMostRaised m l g k ps next t.inputs (length t.inputs)
  by_place i t f (inl h) = λ j jl new. low (cost_from m l g k (raise t.inputs j)) (old i t h f j jl new)
  by_place i t f (inr h) = subst (λ (u : Solution). AtMostRaised m l g k ps next u.inputs (length u.inputs)) h raised

module _ (m : Graph) (l : Lists) (g k : ℕ) (ps : List Solution) (taken : AreTaken m l g k ps) (s : Solution) (next : IsNext m l g k ps (Some s)) where
  long : length (ps ++ s ∷ []) ≡ length ps + 1
  long = length-append ps (s ∷ [])

  -- one more is taken
  pub taken_more : AreTaken m l g k (ps ++ s ∷ [])
  taken_more = record {
    picks = λ i t e. picks i t (get_cases ps s i t e);
    number = λ i t e. number i t (get_cases ps s i t e);
    near = λ i t e. subst (λ n. AreNear m l g k n t.inputs) (sym long) (near i t (get_cases ps s i t e));
    distinct = λ i j t u e f same. distinct i j t u (get_cases ps s i t e) (get_cases ps s j u f) same;
  }
    where
      picks : (i : ℕ) (t : Solution) → (slice_get ps i ≡ Some t) ⊎ ((i ≡ length ps) × (s ≡ t)) → IsPick m l g t
      picks i t (inl e) = taken.picks i t e
      picks i t (inr e) = subst (IsPick m l g) e.1 next.0

      number : (i : ℕ) (t : Solution) → (slice_get ps i ≡ Some t) ⊎ ((i ≡ length ps) × (s ≡ t)) → t.k ≡ k
      number i t (inl e) = taken.number i t e
      number i t (inr e) = subst (λ (u : Solution). u.k ≡ k) e.1 next.1

      near : (i : ℕ) (t : Solution) → (slice_get ps i ≡ Some t) ⊎ ((i ≡ length ps) × (s ≡ t)) → AreNear m l g k (length ps + 1) t.inputs
      near i t (inl e) = near_on l (length ps) (length ps + 1) (omega arith) (m.alternative g k).inputs t.inputs (taken.near i t e)
      near i t (inr e) = subst (λ (u : Solution). AreNear m l g k (length ps + 1) u.inputs) e.1 next.3

      new : (i : ℕ) (t u : Solution) → slice_get ps i ≡ Some t → s ≡ u → t.inputs ≡ u.inputs → ⊥
      new i t u e f same = next.2 (i, t, e, same ∙ sym (ap (λ (x : Solution). x.inputs) f))

      distinct : (i j : ℕ) (t u : Solution) → (slice_get ps i ≡ Some t) ⊎ ((i ≡ length ps) × (s ≡ t)) → (slice_get ps j ≡ Some u) ⊎ ((j ≡ length ps) × (s ≡ u)) → t.inputs ≡ u.inputs → i ≡ j
      distinct i j t u (inl e) (inl f) same = taken.distinct i j t u e f same
      distinct i j t u (inl e) (inr f) same = absurd (new i t u e f.1 same)
      distinct i j t u (inr e) (inl f) same = absurd (new j u t f e.1 (sym same))
      distinct i j t u (inr e) (inr f) same = e.0 ∙ sym f.0

  pub first_more : HasFirst m l g k ps → HasFirst m l g k (ps ++ s ∷ [])
  first_more first within = (let is = first within in (is.0, is.1, get_more ps (s ∷ []) is.0 is.1 is.2, is.3))

module _ (m : Graph) (laws : AreChoices m) (face : ℕ → ℕ → ℕ) (most : ℕ) (l : Lists) (right : AreRight m face most l) (g k : ℕ) (alt : IsAlternative m g k) (done : AllDone m l g k) (some : 0 < most) where
  abbrev Stood : List Showing → List ℕ → List ℕ → Type 0
  Stood vs ts ats = Place most (λ h. (span_at l.spans h).start) (λ h. (span_at l.spans h).count) (shown_at (shown face l.solutions)) (IsShown m face) (m.alternative g k).inputs vs ts ats

  stood_cost : (vs : List Showing) (ts ats : List ℕ) → Stood vs ts ats → cost_from m l g k ats ≤ (m.alternative g k).cost (map paid vs)
  stood_cost vs ts ats place =
      let low = place_costs most (λ h. (span_at l.spans h).start) (λ h. (span_at l.spans h).count) (shown_at (shown face l.solutions)) (IsShown m face) (m.alternative g k).inputs vs ts ats place in
      subst (λ cs. (m.alternative g k).cost cs ≤ (m.alternative g k).cost (map paid vs)) (sym (costs_paid m face most l right ats))
      (laws.rising g k (map paid (map (shown_at (shown face l.solutions)) ats)) (map paid vs) alt low)

  starting : (vs : List Showing) → AreShown m face g k vs → (ts : List ℕ) × Stood vs ts (starts_of m l g k)
  starting vs is = first_place most (λ h. (span_at l.spans h).start) (λ h. (span_at l.spans h).count) (shown_at (shown face l.solutions)) (IsShown m face) (m.alternative g k).inputs vs some
      (bests m face most l right (m.alternative g k).inputs done) is

  -- the first costs no more than any
  pub first_dear : (ps : List Solution) → AreTaken m l g k ps → OnlyFirst m l g k ps → (vs : List Showing) → AreShown m face g k vs → NoneDearer m g k ps vs
  first_dear ps taken only vs is i s e =
      let start = starting vs is in
      let cost : s.cost ≡ cost_from m l g k (starts_of m l g k) = (taken.picks i s e).cost ∙ ap (λ j. cost_from m l g j s.inputs) (taken.number i s e) ∙ ap (cost_from m l g k) (only i s e) in
      omega (arith, cost, stood_cost vs start.0 (starts_of m l g k) start.1)

  -- what the picks say of what inputs show
  ended : (ps : List Solution) → AreTaken m l g k ps → HasFirst m l g k ps → (vs : List Showing) → AreShown m face g k vs
      → (ts : List ℕ) × Ends most (λ h. (span_at l.spans h).start) (λ h. (span_at l.spans h).count) (shown_at (shown face l.solutions)) (IsShown m face) (m.alternative g k).inputs vs ts ps
  ended ps taken first vs is =
      let start = starting vs is in
      let at = first (place_within most (λ h. (span_at l.spans h).start) (λ h. (span_at l.spans h).count) (shown_at (shown face l.solutions)) (IsShown m face) (m.alternative g k).inputs vs start.0 (starts_of m l g k) start.1) in (
        start.0,
        walk most (λ h. (span_at l.spans h).start) (λ h. (span_at l.spans h).count) (shown_at (shown face l.solutions)) (IsShown m face) (m.alternative g k).inputs vs start.0 ps taken.near
            (total start.0) at.0 at.1 at.2 (subst (Stood vs start.0) (sym at.3) start.1) (omega arith),
      )

  -- a cheapest that is new costs no more than what none shows
  pub dear_more : (ps : List Solution) → AreTaken m l g k ps → HasFirst m l g k ps → length ps < most → (s : Solution) → AtMostAll m l g k ps (Some s) (length ps)
      → (vs : List Showing) → AreShown m face g k vs → IsFrom (shown face l.solutions) ps vs ⊎ NoneDearer m g k ps vs → IsFrom (shown face l.solutions) (ps ++ s ∷ []) vs ⊎ NoneDearer m g k (ps ++ s ∷ []) vs
  dear_more ps taken first short s least vs is (inl (i, t, e, same)) = inl (i, t, get_more ps (s ∷ []) i t e, same)
  dear_more ps taken first short s least vs is (inr dear) = let h = ended ps taken first vs is in by_end h.0 h.1 where
    each : s.cost ≤ (m.alternative g k).cost (map paid vs) → (i : ℕ) (t : Solution) → (slice_get ps i ≡ Some t) ⊎ ((i ≡ length ps) × (s ≡ t)) → t.cost ≤ (m.alternative g k).cost (map paid vs)
    each low i t (inl e) = dear i t e
    each low i t (inr e) = subst (λ (u : Solution). u.cost ≤ (m.alternative g k).cost (map paid vs)) e.1 low

    by_end : (ts : List ℕ) → Ends most (λ h. (span_at l.spans h).start) (λ h. (span_at l.spans h).count) (shown_at (shown face l.solutions)) (IsShown m face) (m.alternative g k).inputs vs ts ps
        → IsFrom (shown face l.solutions) (ps ++ s ∷ []) vs ⊎ NoneDearer m g k (ps ++ s ∷ []) vs
    by_end ts (inl (i, t, e, same)) = inl (i, t, get_more ps (s ∷ []) i t e, same)
    by_end ts (inr (inl (i, t, j, e, jl, new, place))) =
        let within = place_within most (λ h. (span_at l.spans h).start) (λ h. (span_at l.spans h).count) (shown_at (shown face l.solutions)) (IsShown m face) (m.alternative g k).inputs vs ts (raise t.inputs j) place in
        let low : s.cost ≤ cost_from m l g k (raise t.inputs j) = least i t (get_within ps i t e) e j jl (within, new) in
        inr (λ i' t' e'. each (omega (arith, low, stood_cost vs ts (raise t.inputs j) place)) i' t' (get_cases ps s i' t' e'))
    by_end ts (inr (inr full)) = absurd (omega (arith, full, short))

  -- where nothing is new, they show all
  pub all_shown : (ps : List Solution) → AreTaken m l g k ps → HasFirst m l g k ps → length ps < most → AtMostAll m l g k ps None (length ps) → AreCheapest m face most l g k ps
  all_shown ps taken first short none vs is = let h = ended ps taken first vs is in by_end h.0 h.1 where
    by_end : (ts : List ℕ) → Ends most (λ h. (span_at l.spans h).start) (λ h. (span_at l.spans h).count) (shown_at (shown face l.solutions)) (IsShown m face) (m.alternative g k).inputs vs ts ps
        → IsFrom (shown face l.solutions) ps vs ⊎ ((length ps ≡ most) × NoneDearer m g k ps vs)
    by_end ts (inl from) = inl from
    by_end ts (inr (inl (i, t, j, e, jl, new, place))) =
        let within = place_within most (λ h. (span_at l.spans h).start) (λ h. (span_at l.spans h).count) (shown_at (shown face l.solutions)) (IsShown m face) (m.alternative g k).inputs vs ts (raise t.inputs j) place in
        absurd (none i t (get_within ps i t e) e j jl (within, new))
    by_end ts (inr (inr full)) = absurd (omega (arith, full, short))
