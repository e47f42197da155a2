-- What is still to be looked at while values fall.
use Rattle.std.specs.Prelude.{◌≡◌, ℕ, ◌+◌, ◌-◌, ◌*◌, ◌≤◌, ◌⊎◌, List, Some, slice_get}
use Rattle.std.specs.List.{Contains, sum_by}
use Rattle.pr_value.specs.Capped.{cap}
use Rattle.best_plan.specs.Moves.{Graph, IsAlternative}
use Rattle.best_plan.specs.Tables.{Known, known}
use Rattle.best_plan.specs.declared.table.Entry.{Entry}
use Rattle.loop_plan.specs.Fallen.{Fallen, value, IsCovered, IsHeld}
use Rattle.loop_plan.specs.Reached.{inputs}
use Rattle.loop_plan.specs.declared.note.Note.{Note}
use Rattle.loop_plan.specs.declared.way.Way.{Way}

-- the goal at its present value
abbrev pub note : Known → ℕ → Note
note t g = record { below = cap + 1 - t.bound g; goal = g }

-- some input of the alternative is noted at its present value
abbrev pub IsNoted : Graph → Known → List Note → Way → Type 0
IsNoted m t notes w = (h : ℕ) × Contains (inputs m w) h × Contains notes (note t h)

-- the alternative covers its goal's value, or will be looked at
abbrev pub IsSeen : Graph → Known → List Note → (Way → Type 0) → Way → Type 0
IsSeen m t notes left w = IsCovered m t w ⊎ IsNoted m t notes w ⊎ left w

-- one of these alternatives from place i on
abbrev pub IsFrom : List Way → ℕ → Way → Type 0
IsFrom ws i w = (j : ℕ) × (i ≤ j) × (slice_get ws j ≡ Some w)

abbrev pub total : List Entry → ℕ
total es = sum_by (λ e. e.bound) es

-- what is left of it once the alternatives up to place i were looked at
pub record AreLowered (m : Graph) (ws : List Way) (i : ℕ) (old new : Fallen) (notes notes' : List Note)
    (n n' : ℕ) : Type 0 where
  pub held : (root : ℕ) → IsHeld m root old → IsHeld m root new
  pub seen : (w : Way) → IsAlternative m w.goal w.k
      → IsSeen m (known old.entries) notes (IsFrom ws 0) w
      → IsSeen m (known new.entries) notes' (IsFrom ws i) w
  pub falls : (g : ℕ) → value new g ≤ value old g
  -- each fall lowers a value, and adds one note
  pub measure : 2 * total new.entries + n' ≤ 2 * total old.entries + n
