-- A cost never falls where an input's cost rises.
use Rattle.std.proofs.Common.{◌≡◌, ℕ, zero, suc, ◌*◌, ◌≤◌, min, List, [], ◌∷◌, slice_index, length, inl, inr, ap, arith, mul-le-mul_left}
use Rattle.std.specs.List.{AllZip, All}
use Rattle.std.proofs.lemmas.Bool.{cases_lt}
use Rattle.std.proofs.lemmas.List.{get_or_past}
use Rattle.pr_value.specs.Capped.{cap}
use Rattle.action_eval.specs.Cost.{CostForm, number, input, sum, greater, lesser, multiple, cost_of}

index_rises : (low high : List ℕ) (i : ℕ) → AllZip (λ x y. x ≤ y) low high → slice_index low i ≤ slice_index high i
index_rises [] [] i h = omega arith
index_rises [] (y ∷ ys) i h = absurd h
index_rises (x ∷ xs) [] i h = absurd h
index_rises (x ∷ xs) (y ∷ ys) zero h = h.0
index_rises (x ∷ xs) (y ∷ ys) (suc i) h = index_rises xs ys i h.1

pub cost_rises : (f : CostForm) (low high : List ℕ) → AllZip (λ x y. x ≤ y) low high → cost_of f low ≤ cost_of f high
cost_rises (number n) low high h = omega arith
cost_rises (input i) low high h = index_rises low high i h
cost_rises (sum a b) low high h = omega (arith, cost_rises a low high h, cost_rises b low high h)
cost_rises (greater a b) low high h = omega (arith, cost_rises a low high h, cost_rises b low high h)
cost_rises (lesser a b) low high h = omega (arith, cost_rises a low high h, cost_rises b low high h)
cost_rises (multiple n a) low high h =
    let below : n * cost_of a low ≤ n * cost_of a high = mul-le-mul_left n (cost_rises a low high h) in omega (arith, below)

-- and so of what equals the cost
pub rises_to : (f : CostForm) (high : List ℕ) (n : ℕ) → n ≡ cost_of f high → (low : List ℕ) → AllZip (λ x y. x ≤ y) low high → cost_of f low ≤ n
rises_to f high n is low h = omega (arith, cost_rises f low high h)

index_in : (costs : List ℕ) (i : ℕ) → All (λ c. c ≤ cap) costs → slice_index costs i ≤ cap
index_in costs i h =
    elim (cases_lt i (length costs)) [
      | inl below ↦ h i 0 below
      | inr above ↦ omega (arith, get_or_past costs i 0 above)
    ]

-- and it is at most the cap
pub cost_in_cap : (f : CostForm) (costs : List ℕ) → All (λ c. c ≤ cap) costs → cost_of f costs ≤ cap
cost_in_cap (number n) costs h = omega arith
cost_in_cap (input i) costs h = index_in costs i h
cost_in_cap (sum a b) costs h = omega arith
cost_in_cap (greater a b) costs h = omega (arith, cost_in_cap a costs h, cost_in_cap b costs h)
cost_in_cap (lesser a b) costs h = omega (arith, cost_in_cap a costs h, cost_in_cap b costs h)
cost_in_cap (multiple n a) costs h = omega arith

-- a product that stops at the largest number of 64 bits is the same up to the cap
pub capped_later : (n s v : ℕ) {u : ℕ} → s ≡ min (n * v) 18446744073709551615 → v ≡ u → min s cap ≡ min (n * u) cap
capped_later n s v {u} is same =
    let product : n * v ≡ n * u = ap (λ w. n * w) same in omega arith
