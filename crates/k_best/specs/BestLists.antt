-- The cheapest of all solutions of a goal, of which no two show the same.
use Rattle.std.specs.Prelude.{◌≡◌, ℕ, ◌≤◌, ◌<◌, ◌⊎◌, true, List, length, map, slice_get, Some}
use Rattle.std.specs.List.{AllByRecursion}
use Rattle.best_plan.specs.declared.solution.Solution.{Solution}
use Rattle.best_plan.specs.Moves.{Graph, IsAlternative}
use Rattle.best_plan.specs.Solutions.{AreSound, SolvesAt}
use Rattle.k_best.specs.Showings.{Showing, paid, shown, shown_at}

-- some solution of the goal, in some sound list, shows this
abbrev pub IsShown : Graph → (ℕ → ℕ → ℕ) → ℕ → Showing → Type 0
IsShown m face g v = (us : List Solution) × (sound : AreSound m us) × (at : ℕ)
    × (solves : SolvesAt us g at) × (shown_at (shown face us) at ≡ v)

abbrev pub IsAmong : ℕ → (ℕ → Showing) → Showing → Type 0
IsAmong n f v = (i : ℕ) × (i < n) × (f i ≡ v)

-- there are as many as were asked for, and none costs more than this
abbrev pub IsFull : ℕ → ℕ → (ℕ → Showing) → Showing → Type 0
IsFull most n f v = (n ≡ most) × ((i : ℕ) → i < n → paid (f i) ≤ paid v)

abbrev pub Covers : ℕ → ℕ → (ℕ → Showing) → Showing → Type 0
Covers most n f v = IsAmong n f v ⊎ IsFull most n f v

-- what n solutions show, at most as many as were asked for: the cheapest of all that is made
pub record IsBest (made : Showing → Type 0) (most n : ℕ) (f : ℕ → Showing) : Type 0 where
  pub few : n ≤ most
  -- costs never fall
  pub rising : (i j : ℕ) → i ≤ j → j < n → paid (f i) ≤ paid (f j)
  -- no two are the same
  pub distinct : (i j : ℕ) → i < n → j < n → f i ≡ f j → i ≡ j
  -- what is not among them costs at least as much as each, and they are as many as asked for
  pub complete : (v : Showing) → made v → Covers most n f v

-- places of solutions of the goal, which show the cheapest of all that its solutions show
pub record IsBestList (m : Graph) (face : ℕ → ℕ → ℕ) (g most : ℕ) (ss : List Solution)
    (chosen : List ℕ) : Type 0 where
  pub solve : AllByRecursion (SolvesAt ss g) chosen
  pub best : IsBest (IsShown m face g) most (length chosen)
      (shown_at (map (shown_at (shown face ss)) chosen))

-- the goals that a goal's alternatives lead to, itself among them
pub data LeadsTo (m : Graph) : ℕ → ℕ → Type 0 where
  here : (g : ℕ) → LeadsTo m g g
  along : (g k i h l : ℕ) → IsAlternative m g k
      → slice_get (m.alternative g k).inputs i ≡ Some h → LeadsTo m h l → LeadsTo m g l

abbrev pub AllLedUnfolded : Graph → ℕ → Type 0
AllLedUnfolded m g = (h : ℕ) → LeadsTo m g h → m.unfolded h ≡ true
