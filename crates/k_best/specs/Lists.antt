-- Lists of best solutions, goal by goal.
use Rattle.std.specs.Prelude.{◌≡◌, ℕ, ◌+◌, ◌≤◌, ◌<◌, ◌^◌, ◌↔◌, ◌⊎◌, List, length, Option, Some, None, slice_get}
use Rattle.std.specs.List.{AllZip}
use Rattle.pr_value.specs.Capped.{cap}
use Rattle.best_plan.specs.declared.solution.Solution.{Solution}
use Rattle.best_plan.specs.Moves.{Graph}
use Rattle.best_plan.specs.Solutions.{AreSound, SolvesAt, cost_in}
use Rattle.k_best.specs.declared.lists.Span.{Span}
use Rattle.k_best.specs.declared.lists.Lists.{Lists}
use Rattle.k_best.specs.Indexes.{IsIndexed}
use Rattle.k_best.specs.Showings.{shown, shown_at}
use Rattle.k_best.specs.BestLists.{IsShown, IsBest}

abbrev pub no_span : Span
no_span = record { start = 0; count = 0 }

abbrev pub span_of : Option (Option Span) → Option Span
span_of None = None
span_of (Some o) = o

abbrev pub span_or : Option Span → Span
span_or None = no_span
span_or (Some p) = p

-- the places of a goal's list, and none where it has no list
abbrev pub span_at : List (Option Span) → ℕ → Span
span_at spans g = span_or (span_of (slice_get spans g))

-- the goal has a list
abbrev pub IsDone : List (Option Span) → ℕ → Type 0
IsDone spans g = (p : Span) × (span_of (slice_get spans g) ≡ Some p)

abbrev pub InSpan : Span → ℕ → Type 0
InSpan p at = (p.start ≤ at) × (at < p.start + p.count)

-- each place is one of its goal's list
abbrev pub AreWithin : List (Option Span) → List ℕ → List ℕ → Type 0
AreWithin spans gs ats = AllZip (λ g at. InSpan (span_at spans g) at) gs ats

abbrev pub cost_at : List Solution → ℕ → ℕ
cost_at ss at = cost_in (slice_get ss at)

abbrev pub number_in : Option ℕ → ℕ
number_in None = 0
number_in (Some n) = n

abbrev pub label_at : List ℕ → ℕ → ℕ
label_at labels at = number_in (slice_get labels at)

-- of the solutions that have labels, those have the same that show the same
pub record AreLabelled (face : ℕ → ℕ → ℕ) (ss : List Solution) (labels : List ℕ) : Type 0 where
  pub low : (at : ℕ) → at < length labels → label_at labels at ≤ at
  pub same : (a b : ℕ) → a < length labels → b < length labels
      → (label_at labels a ≡ label_at labels b)
      ↔ (shown_at (shown face ss) a ≡ shown_at (shown face ss) b)

-- the solution has the label of one that shows the same, or its own where none does
abbrev pub IsLabel : (ℕ → ℕ → ℕ) → List Solution → List ℕ → ℕ → ℕ → Type 0
IsLabel face ss labels at n =
    ((b : ℕ) × (b < at) × (n ≡ label_at labels b)
    × (shown_at (shown face ss) b ≡ shown_at (shown face ss) at))
    ⊎ ((n ≡ at) × ((b : ℕ) → b < at → shown_at (shown face ss) b ≡ shown_at (shown face ss) at → ⊥))

-- no list has a place from this on
abbrev pub EndBy : List (Option Span) → ℕ → Type 0
EndBy spans n = (g : ℕ) → (span_at spans g).start + (span_at spans g).count ≤ n

-- a span has the best solutions of its goal
pub record IsListed (m : Graph) (face : ℕ → ℕ → ℕ) (most : ℕ) (ss : List Solution) (g : ℕ)
    (p : Span) : Type 0 where
  pub within : p.start + p.count ≤ length ss
  pub solves : (at : ℕ) → InSpan p at → SolvesAt ss g at
  pub best : IsBest (IsShown m face g) most p.count (λ i. shown_at (shown face ss) (p.start + i))

-- the lists are right for the moves
pub record AreRight (m : Graph) (face : ℕ → ℕ → ℕ) (most : ℕ) (l : Lists) : Type 0 where
  pub sound : AreSound m l.solutions
  pub capped : (at : ℕ) → cost_at l.solutions at ≤ cap
  pub short : length l.solutions < 2 ^ 64
  pub long : length l.labels ≡ length l.solutions
  pub labelled : AreLabelled face l.solutions l.labels
  pub marked : length l.index.marks ≡ length l.labels
  pub indexed : IsIndexed (shown face l.solutions) l.index
  pub listed : (g : ℕ) (p : Span) → span_of (slice_get l.spans g) ≡ Some p
      → IsListed m face most l.solutions g p
