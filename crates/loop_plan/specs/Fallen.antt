-- The values of goals, and the solutions that they fell by.
use Rattle.std.specs.Prelude.{◌≡◌, ℕ, ◌+◌, ◌≤◌, ◌<◌, ◌++◌, Bool, true, false, List, [], ◌∷◌, map, length, Option, Some, None, slice_set, ◌⊎◌}
use Rattle.pr_value.specs.Capped.{cap}
use Rattle.best_plan.specs.Moves.{Graph, IsAlternative, IsUnfolded, IsLeast, ReachesNone}
use Rattle.best_plan.specs.Solutions.{AreSound}
use Rattle.best_plan.specs.Tables.{Known, known, at_bounds}
use Rattle.best_plan.specs.declared.solution.Solution.{Solution}
use Rattle.best_plan.specs.declared.table.Entry.{Entry}
use Rattle.loop_plan.specs.Leads.{Leads}
use Rattle.loop_plan.specs.Reaching.{CostsAt, reaches}
use Rattle.loop_plan.specs.declared.way.Way.{Way}

-- solutions, and an entry for each goal: its value, and the place of its last solution
pub record Fallen : Type 0 where
  pub solutions : List Solution
  pub entries : List Entry

abbrev pub value : Fallen → ℕ → ℕ
value f g = (known f.entries).bound g

abbrev pub last : Fallen → ℕ → Option ℕ
last f g = (known f.entries).choice g

-- no solution, where the goal reaches no cost; or one of the least cost that it reaches
abbrev pub Ends : Graph → List Solution → ℕ → ℕ → Option ℕ → Type 0
Ends m ss g v None = (v ≡ cap + 1) × ReachesNone (reaches m) g
Ends m ss g v (Some at) = (v ≤ cap) × IsLeast (reaches m) g v × CostsAt ss g v at

-- all that the root leads to has its least cost
pub record IsFallen (m : Graph) (root : ℕ) (f : Fallen) : Type 0 where
  pub sound : AreSound m f.solutions
  pub unfolded : (g : ℕ) → Leads m root g → IsUnfolded m g
  pub ends : (g : ℕ) → Leads m root g → Ends m f.solutions g (value f g) (last f g)
  -- the other goals have value 0 and no solution
  pub others : (g : ℕ) → (Leads m root g → ⊥) → (value f g ≡ 0) × (last f g ≡ None)
  -- each alternative costs at least its goal's value, with inputs at their values
  pub covered : (g k : ℕ) → IsAlternative m g k
      → value f g ≤ at_bounds (known f.entries) (m.alternative g k)

abbrev pub place_in : Option ℕ → ℕ
place_in None = 0
place_in (Some at) = at

-- the places of the last solutions of these goals
abbrev pub places : Known → List ℕ → List ℕ
places t gs = map (λ h. place_in (t.choice h)) gs

-- the solution by an alternative from its inputs' last solutions
abbrev pub solution : Graph → Known → Way → Solution
solution m t w = record {
  goal = w.goal;
  k = w.k;
  inputs = places t (m.alternative w.goal w.k).inputs;
  cost = at_bounds t (m.alternative w.goal w.k);
}

-- one more solution, and its goal's value falls to its cost
pub record IsFall (m : Graph) (w : Way) (old new : Fallen) : Type 0 where
  pub less : at_bounds (known old.entries) (m.alternative w.goal w.k) < value old w.goal
  pub solutions : new.solutions ≡ old.solutions ++ solution m (known old.entries) w ∷ []
  pub entries : new.entries ≡ slice_set old.entries w.goal (record {
    bound = at_bounds (known old.entries) (m.alternative w.goal w.k);
    choice = Some (length old.solutions);
  })

-- the alternative costs at least its goal's value, with inputs at their values
abbrev pub IsCovered : Graph → Known → Way → Type 0
IsCovered m t w = t.bound w.goal ≤ at_bounds t (m.alternative w.goal w.k)

-- the goal fell by this alternative, or it covers the goal's value
abbrev pub Lowers : Graph → Way → Fallen → Fallen → Bool → Type 0
Lowers m w old new true = IsFall m w old new
Lowers m w old new false = (new ≡ old) × IsCovered m (known old.entries) w

-- what is held of a goal's value: the root leads to it, and its last solution costs that much
abbrev pub IsHeldBy : List Solution → ℕ → ℕ → Option ℕ → Type 0
IsHeldBy ss g v None = v ≡ cap + 1
IsHeldBy ss g v (Some at) = CostsAt ss g v at

-- solutions are sound, and each value but 'no plan' is the cost of the goal's last one
pub record IsHeld (m : Graph) (root : ℕ) (f : Fallen) : Type 0 where
  pub sound : AreSound m f.solutions
  pub each : (g : ℕ) → (Leads m root g × IsHeldBy f.solutions g (value f g) (last f g))
      ⊎ ((Leads m root g → ⊥) × (value f g ≡ 0) × (last f g ≡ None))
