-- The least of some values, and how many of them are below a limit.
use Rattle.std.proofs.Common.{◌≡◌, ℕ, zero, suc, ◌+◌, ◌≤◌, ◌<◌, true, false, Option, Some, None, ap, sym, ◌∙◌, subst, arith, inl, inr}
use Rattle.std.specs.Prelude.{◌⊎◌, nat_lt, if◌then◌else◌}
use Rattle.best_plan.proofs.BoundLaws.{either, is_lt, not_lt, lt_true}
use Rattle.best_plan.specs.Answers.{HasPlace, IsLeastOf}
use Rattle.best_plan.specs.declared.costs.Best.{Best}

lt_or_eq : (j i : ℕ) → j < i + 1 → (j < i) ⊎ (j ≡ i)
lt_or_eq j zero h = inr (omega arith)
lt_or_eq zero (suc i) h = inl (omega arith)
lt_or_eq (suc j) (suc i) h = elim (lt_or_eq j i (omega arith)) [ inl l ↦ inl (omega arith) | inr e ↦ inr (ap suc e) ]

le_or_lt : (a b : ℕ) → (a ≤ b) ⊎ (b < a)
le_or_lt zero b = inl (omega arith)
le_or_lt (suc a) zero = inr (omega arith)
le_or_lt (suc a) (suc b) = elim (le_or_lt a b) [ inl l ↦ inl (omega arith) | inr l ↦ inr (omega arith) ]

place_more : (n : ℕ) (f : ℕ → ℕ) (top least : ℕ) (choice : Option ℕ) → HasPlace n f top least choice → HasPlace (n + 1) f top least choice
place_more n f top least None h = h
place_more n f top least (Some k) h = (omega (arith, h.0), h.1, h.2)

pub least_more : (n : ℕ) (f : ℕ → ℕ) (top : ℕ) (best after : Best) (cost : ℕ) → IsLeastOf n f top best → cost ≡ f n
    → (cost < best.cost → after ≡ record { cost = cost; choice = Some n }) → (best.cost ≤ cost → after ≡ best) → IsLeastOf (n + 1) f top after
least_more n f top best after cost old is takes keeps = by_order (le_or_lt best.cost cost) where
  kept : best.cost ≤ cost → IsLeastOf (n + 1) f top best
  kept l = record {
    each = λ j h. elim (lt_or_eq j n h) [ inl b ↦ old.each j b | inr e ↦ omega (arith, ap f e) ];
    place = place_more n f top best.cost best.choice old.place;
    capped = old.capped;
  }

  taken : cost < best.cost → IsLeastOf (n + 1) f top (record { cost = cost; choice = Some n })
  taken l = record {
    each = λ j h. elim (lt_or_eq j n h) [ inl b ↦ omega (arith, old.each j b) | inr e ↦ omega (arith, ap f e) ];
    place = (omega arith, is, omega (arith, old.capped));
    capped = omega (arith, old.capped);
  }

  by_order : (best.cost ≤ cost) ⊎ (cost < best.cost) → IsLeastOf (n + 1) f top after
  by_order (inl l) = subst (IsLeastOf (n + 1) f top) (sym (keeps l)) (kept l)
  by_order (inr l) = subst (IsLeastOf (n + 1) f top) (sym (takes l)) (taken l)

place_at : (n : ℕ) (f : ℕ → ℕ) (top least k : ℕ) (choice : Option ℕ) → HasPlace n f top least choice → choice ≡ Some k → (k < n) × (least ≡ f k)
place_at n f top least k None h e = cc
place_at n f top least k (Some j) h e = let same : j ≡ k = cc in (subst (λ i. i < n) same h.0, h.1 ∙ ap f same)

place_none : (n : ℕ) (f : ℕ → ℕ) (top least : ℕ) (choice : Option ℕ) → HasPlace n f top least choice → choice ≡ None → least ≡ top
place_none n f top least None h e = h
place_none n f top least (Some j) h e = cc

-- the place that has the least
pub least_at : (n : ℕ) (f : ℕ → ℕ) (top k : ℕ) (least : Best) → IsLeastOf n f top least → least.choice ≡ Some k → (k < n) × (least.cost ≡ f k)
least_at n f top k least h e = place_at n f top least.cost k least.choice h.place e

-- where there is none below a limit, the least is no less than that
pub least_past : (n : ℕ) (f : ℕ → ℕ) (top limit : ℕ) (least : Best) → IsLeastOf n f top least → limit ≤ top → (limit ≤ least.cost) ⊎ (least.choice ≡ None) → limit ≤ least.cost
least_past n f top limit least h low (inl l) = l
least_past n f top limit least h low (inr e) = omega (arith, low, place_none n f top least.cost least.choice h.place e)

-- how many of the first n are below c
abbrev pub count_below : ℕ → (ℕ → ℕ) → ℕ → ℕ
count_below zero f c = 0
count_below (suc n) f c = count_below n f c + (if nat_lt (f n) c then 1 else 0)

one_le : (a b c d : ℕ) → (a < c → b < d) → (if nat_lt a c then 1 else 0) ≤ (if nat_lt b d then 1 else 0)
one_le a b c d h = by_cases (either (nat_lt a c)) where
  by_cases : (nat_lt a c ≡ true) ⊎ (nat_lt a c ≡ false) → (if nat_lt a c then 1 else 0) ≤ (if nat_lt b d then 1 else 0)
  by_cases (inl e) = rw (e, is_lt b d (h (lt_true a c e))) (omega arith)
  by_cases (inr e) = rw e (omega arith)

pub count_le : (n : ℕ) (f f' : ℕ → ℕ) (c c' : ℕ) → ((k : ℕ) → k < n → f' k < c' → f k < c) → count_below n f' c' ≤ count_below n f c
count_le zero f f' c c' h = omega arith
count_le (suc n) f f' c c' h = omega (arith, count_le n f f' c c' (λ k l. h k (omega arith)), one_le (f' n) (f n) c' c (h n (omega arith)))

one_lt : (a b c d : ℕ) → b < d → c ≤ a → (if nat_lt a c then 1 else 0) < (if nat_lt b d then 1 else 0)
one_lt a b c d l m = rw (not_lt a c m, is_lt b d l) (omega arith)

-- fewer are below it, where no other comes below it and one is no more
pub count_lt : (n : ℕ) (f f' : ℕ → ℕ) (c c' j : ℕ) → ((k : ℕ) → k < n → f' k < c' → f k < c) → j < n → f j < c → c' ≤ f' j → count_below n f' c' < count_below n f c
count_lt zero f f' c c' j h l b p = absurd (omega arith)
count_lt (suc n) f f' c c' j h l b p = by_order (λ s. count_lt n f f' c c' j (λ k m. h k (omega arith)) s b p) (lt_or_eq j n (omega arith)) where
  by_order : (j < n → count_below n f' c' < count_below n f c) → (j < n) ⊎ (j ≡ n) → count_below (suc n) f' c' < count_below (suc n) f c
  by_order less (inl s) = omega (arith, less s, one_le (f' n) (f n) c' c (h n (omega arith)))
  by_order less (inr e) = omega (arith, count_le n f f' c c' (λ k m. h k (omega arith)), one_lt (f' n) (f n) c' c (subst (λ x. f x < c) e b) (subst (λ x. c' ≤ f' x) e p))
