-- Which goals of new moves keep what is held of goals of old ones.
use Rattle.std.specs.Prelude.{◌≡◌, ℕ, ◌<◌, ◌↔◌, Bool, true, false, List, Option, Some, None, slice_get, slice_set, ◌⊎◌}
use Rattle.std.specs.List.{AllZip}
use Rattle.best_plan.specs.Moves.{Graph, IsUnfolded}
use Rattle.best_plan.specs.Tables.{Known}
use Rattle.best_plan.specs.declared.table.Entry.{Entry}

-- whether an alternative of the new moves, by goal and number, has the form of one of the old
abbrev pub Form : Type 0
Form = ℕ → ℕ → ℕ → ℕ → Bool

abbrev pub place_in : Option (Option ℕ) → Option ℕ
place_in None = None
place_in (Some place) = place

-- the old goal that is the new goal's place, if there is one
abbrev pub place : List (Option ℕ) → ℕ → Option ℕ
place places g = place_in (slice_get places g)

-- the new goal is kept, and the old goal is its place
abbrev pub KeptAs : (ℕ → Bool) → List (Option ℕ) → ℕ → ℕ → Type 0
KeptAs kept places g h = (kept g ≡ true) × (place places g ≡ Some h)

-- goal g of the new moves has the alternatives of goal h of the old, from inputs that are kept
pub record Matches (old new : Graph) (form : Form) (places : List (Option ℕ)) (kept : ℕ → Bool)
    (g h : ℕ) : Type 0 where
  pub at : place places g ≡ Some h
  pub unfolded : IsUnfolded new g
  pub there : IsUnfolded old h
  pub count : new.count g ≡ old.count h
  pub forms : (k : ℕ) → k < new.count g → form g k h k ≡ true
  pub inputs : (k : ℕ) → k < new.count g
      → AllZip (KeptAs kept places) (new.alternative g k).inputs (old.alternative h k).inputs

-- exactly the goals that match are kept; each has the entry of its place, and the others have none
pub record Carries (old new : Graph) (form : Form) (places : List (Option ℕ)) (before after : Known)
    (kept : ℕ → Bool) : Type 0 where
  pub exact : (g : ℕ) → kept g ≡ true ↔ ((h : ℕ) × Matches old new form places kept g h)
  pub bound : (g h : ℕ) → KeptAs kept places g h → after.bound g ≡ before.bound h
  pub choice : (g h : ℕ) → KeptAs kept places g h → after.choice g ≡ before.choice h
  pub others : (g : ℕ) → kept g ≡ false → (after.bound g ≡ 0) × (after.choice g ≡ None)

-- since inputs have smaller ranks, there is one way only to keep goals so
abbrev pub IsCarried : Graph → Graph → Form → List (Option ℕ) → Known → Known → Type 0
IsCarried old new form places before after =
    (kept : ℕ → Bool) × Carries old new form places before after kept

abbrev pub flag_in : Option Bool → Bool
flag_in None = false
flag_in (Some flag) = flag

-- the numbers whose flags are true
abbrev pub flagged : List Bool → ℕ → Bool
flagged flags g = flag_in (slice_get flags g)

-- the goal matches nothing, and nothing changes; or it is kept now, with the entry of its place
abbrev pub IsStep : Graph → Graph → Form → List (Option ℕ) → Known → ℕ → List Bool → List Bool
    → List Entry → List Entry → Type 0
IsStep old new form places before g flags flags' entries entries' =
    (((h : ℕ) → Matches old new form places (flagged flags) g h → ⊥)
    × (flags' ≡ flags) × (entries' ≡ entries))
    ⊎ ((h : ℕ) × Matches old new form places (flagged flags) g h
    × (flags' ≡ slice_set flags g true)
    × (entries' ≡ slice_set entries g
    (record { bound = before.bound h; choice = before.choice h })))
