-- Solutions of one alternative from the lists of its inputs.
use Rattle.std.specs.Prelude.{◌≡◌, ℕ, ◌+◌, ◌≤◌, ◌<◌, ◌⊎◌, List, length, map, Option, Some, None, slice_get, slice_set, slice_index}
use Rattle.std.specs.List.{AllZip, AllByRecursion}
use Rattle.best_plan.specs.declared.solution.Solution.{Solution}
use Rattle.best_plan.specs.Moves.{Graph, IsAlternative}
use Rattle.k_best.specs.declared.lists.Lists.{Lists}
use Rattle.k_best.specs.Showings.{Showing, paid, shown, shown_at, shown_by}
use Rattle.k_best.specs.BestLists.{IsShown}
use Rattle.k_best.specs.Lists.{span_at, AreWithin, cost_at, IsDone}

-- the place behind in one of the lists
abbrev pub raise : List ℕ → ℕ → List ℕ
raise ats j = slice_set ats j (slice_index ats j + 1)

-- what the alternative costs from solutions at these places
abbrev pub cost_from : Graph → Lists → ℕ → ℕ → List ℕ → ℕ
cost_from m l g k ats = (m.alternative g k).cost (map (cost_at l.solutions) ats)

-- a solution of the goal from its inputs' lists
pub record IsPick (m : Graph) (l : Lists) (g : ℕ) (s : Solution) : Type 0 where
  pub goal : s.goal ≡ g
  pub alternative : IsAlternative m g s.k
  pub within : AreWithin l.spans (m.alternative g s.k).inputs s.inputs
  pub cost : s.cost ≡ cost_from m l g s.k s.inputs

abbrev pub ArePicks : Graph → Lists → ℕ → List Solution → Type 0
ArePicks m l g ps = (i : ℕ) (s : Solution) → slice_get ps i ≡ Some s → IsPick m l g s

abbrev pub AllDone : Graph → Lists → ℕ → ℕ → Type 0
AllDone m l g k = AllByRecursion (IsDone l.spans) (m.alternative g k).inputs

-- one of the solutions has these inputs
abbrev pub IsTaken : List Solution → List ℕ → Type 0
IsTaken ps ats = (i : ℕ) × (s : Solution) × (slice_get ps i ≡ Some s) × (s.inputs ≡ ats)

-- places of the inputs' lists that no solution has taken
abbrev pub IsNew : Graph → Lists → ℕ → ℕ → List Solution → List ℕ → Type 0
IsNew m l g k ps ats = (within : AreWithin l.spans (m.alternative g k).inputs ats)
    × (IsTaken ps ats → ⊥)

-- no place is so many or more behind the start of its list
abbrev pub AreNear : Graph → Lists → ℕ → ℕ → ℕ → List ℕ → Type 0
AreNear m l g k n ats =
    AllZip (λ h at. at < (span_at l.spans h).start + n) (m.alternative g k).inputs ats

-- the first places of the lists of the alternative's inputs
abbrev pub starts_of : Graph → Lists → ℕ → ℕ → List ℕ
starts_of m l g k = map (λ h. (span_at l.spans h).start) (m.alternative g k).inputs

-- it is there, if each input has a solution
abbrev pub HasFirst : Graph → Lists → ℕ → ℕ → List Solution → Type 0
HasFirst m l g k ps = AreWithin l.spans (m.alternative g k).inputs (starts_of m l g k)
    → IsTaken ps (starts_of m l g k)

abbrev pub OnlyFirst : Graph → Lists → ℕ → ℕ → List Solution → Type 0
OnlyFirst m l g k ps =
    (i : ℕ) (s : Solution) → slice_get ps i ≡ Some s → s.inputs ≡ starts_of m l g k

-- solutions of one alternative, each from other inputs
pub record AreTaken (m : Graph) (l : Lists) (g k : ℕ) (ps : List Solution) : Type 0 where
  pub picks : ArePicks m l g ps
  pub number : (i : ℕ) (s : Solution) → slice_get ps i ≡ Some s → s.k ≡ k
  pub near : (i : ℕ) (s : Solution) → slice_get ps i ≡ Some s → AreNear m l g k (length ps) s.inputs
  pub distinct : (i j : ℕ) (s t : Solution) → slice_get ps i ≡ Some s → slice_get ps j ≡ Some t
      → s.inputs ≡ t.inputs → i ≡ j

-- none yet, or one that may be taken next
abbrev pub IsNext : Graph → Lists → ℕ → ℕ → List Solution → Option Solution → Type 0
IsNext m l g k ps None = Unit {0}
IsNext m l g k ps (Some s) = (pick : IsPick m l g s) × (s.k ≡ k) × (new : IsTaken ps s.inputs → ⊥)
    × AreNear m l g k (length ps + 1) s.inputs

-- there is one, and it costs no more
abbrev pub AtMost : Option Solution → ℕ → Type 0
AtMost None c = ⊥
AtMost (Some s) c = s.cost ≤ c

-- it costs no more than any from inputs of which one stands a place behind those of the solution
abbrev pub AtMostRaised : Graph → Lists → ℕ → ℕ → List Solution → Option Solution → List ℕ → ℕ
    → Type 0
AtMostRaised m l g k ps best ats n = (j : ℕ) → j < n → IsNew m l g k ps (raise ats j)
    → AtMost best (cost_from m l g k (raise ats j))

abbrev pub AtMostAll : Graph → Lists → ℕ → ℕ → List Solution → Option Solution → ℕ → Type 0
AtMostAll m l g k ps best n = (i : ℕ) (s : Solution) → i < n → slice_get ps i ≡ Some s
    → AtMostRaised m l g k ps best s.inputs (length s.inputs)

-- the solutions of the alternative's inputs show these
abbrev pub AreShown : Graph → (ℕ → ℕ → ℕ) → ℕ → ℕ → List Showing → Type 0
AreShown m face g k vs = AllZip (IsShown m face) (m.alternative g k).inputs vs

-- one of the solutions is from inputs that show these
abbrev pub IsFrom : List Showing → List Solution → List Showing → Type 0
IsFrom seen ps vs = (i : ℕ) × (s : Solution) × (slice_get ps i ≡ Some s)
    × (map (shown_at seen) s.inputs ≡ vs)

-- none of the solutions costs more than from inputs that show these
abbrev pub NoneDearer : Graph → ℕ → ℕ → List Solution → List Showing → Type 0
NoneDearer m g k ps vs = (i : ℕ) (s : Solution) → slice_get ps i ≡ Some s
    → s.cost ≤ (m.alternative g k).cost (map paid vs)

-- the cheapest solutions of the alternative
abbrev pub AreCheapest : Graph → (ℕ → ℕ → ℕ) → ℕ → Lists → ℕ → ℕ → List Solution → Type 0
AreCheapest m face most l g k ps = (vs : List Showing) → AreShown m face g k vs
    → IsFrom (shown face l.solutions) ps vs ⊎ ((length ps ≡ most) × NoneDearer m g k ps vs)

-- what solutions show that are not in the lists yet
abbrev pub shown_of : (ℕ → ℕ → ℕ) → Lists → List Solution → List Showing
shown_of face l ps = map (shown_by face (shown face l.solutions)) ps

-- one of the solutions shows the same
abbrev pub ShowsIn : (ℕ → ℕ → ℕ) → Lists → List Solution → Solution → Type 0
ShowsIn face l ps s = (i : ℕ) × (t : Solution) × (slice_get ps i ≡ Some t)
    × (shown_by face (shown face l.solutions) t ≡ shown_by face (shown face l.solutions) s)

-- the first of many, so far, that show what none that was chosen shows: a cheapest of them
abbrev pub IsCheapestNew : (ℕ → ℕ → ℕ) → Lists → List Solution → List Solution → ℕ → Option ℕ
    → Type 0
IsCheapestNew face l pool chosen n None =
    (i : ℕ) (s : Solution) → i < n → slice_get pool i ≡ Some s → ShowsIn face l chosen s
IsCheapestNew face l pool chosen n (Some at) = (s : Solution) × (slice_get pool at ≡ Some s)
    × (new : ShowsIn face l chosen s → ⊥)
    × ((i : ℕ) (t : Solution) → i < n → slice_get pool i ≡ Some t
    → ShowsIn face l chosen t ⊎ (s.cost ≤ t.cost))

-- all of these are among those
abbrev pub AreIn : List Solution → List Solution → Type 0
AreIn ps pool =
    (i : ℕ) (s : Solution) → slice_get ps i ≡ Some s → (j : ℕ) × (slice_get pool j ≡ Some s)

-- the cheapest solutions of an alternative are among them
abbrev pub HasCheapest : Graph → (ℕ → ℕ → ℕ) → ℕ → Lists → ℕ → List Solution → ℕ → Type 0
HasCheapest m face most l g pool k = (ps : List Solution) × (taken : AreTaken m l g k ps)
    × (cheapest : AreCheapest m face most l g k ps) × AreIn ps pool

-- some of many solutions, of which no two show the same, and none costs more than what they lack
pub record IsChoice (face : ℕ → ℕ → ℕ) (l : Lists) (pool chosen : List Solution) : Type 0 where
  pub from : AreIn chosen pool
  pub rising : (i j : ℕ) (s t : Solution) → i ≤ j → slice_get chosen i ≡ Some s
      → slice_get chosen j ≡ Some t → s.cost ≤ t.cost
  pub distinct : (i j : ℕ) (s t : Solution) → slice_get chosen i ≡ Some s
      → slice_get chosen j ≡ Some t
      → shown_by face (shown face l.solutions) s ≡ shown_by face (shown face l.solutions) t → i ≡ j
  pub covers : (i : ℕ) (s : Solution) → slice_get pool i ≡ Some s
      → ShowsIn face l chosen s
      ⊎ ((j : ℕ) (t : Solution) → slice_get chosen j ≡ Some t → t.cost ≤ s.cost)

-- as many as are wanted, or all that show something new
pub record AreChosen (face : ℕ → ℕ → ℕ) (most : ℕ) (l : Lists) (pool chosen : List Solution)
    : Type 0 where
  pub choice : IsChoice face l pool chosen
  pub few : length chosen ≤ most
  pub all : (length chosen ≡ most)
      ⊎ ((i : ℕ) (s : Solution) → slice_get pool i ≡ Some s → ShowsIn face l chosen s)
