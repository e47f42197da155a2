-- Values that each alternative covers are at most all that goals reach.
use Rattle.std.proofs.Common.{◌≡◌, ℕ, zero, suc, ◌≤◌, ◌<◌, List, [], ◌∷◌, map, take, Some, slice_get, ap, sym, subst, arith}
use Rattle.std.specs.List.{AllZip, AllByRecursion}
use Rattle.pr_value.specs.Capped.{cap}
use Rattle.best_plan.specs.Moves.{Graph, IsAlternative, Reaches, AreChoices, Gives}
use Rattle.best_plan.specs.Solutions.{cost_in, SolvesAt, IsSolution, AreSound}
use Rattle.best_plan.specs.Tables.{Known, at_bounds}
use Rattle.best_plan.specs.declared.solution.Solution.{Solution}
use Rattle.best_plan.proofs.BoundLaws.{at_low}
use Rattle.loop_plan.specs.Reaching.{CostsAt, reaches}
use Rattle.loop_plan.proofs.ListLaws.{get_take}

module _ (m : Graph) (laws : AreChoices m) (ss : List Solution) (sound : AreSound m ss) where
  -- the costs of solutions at places before this one
  abbrev before : ℕ → Reaches
  before at g c = (j : ℕ) × (j < at) × CostsAt ss g c j

  costs_at : (at : ℕ) (gs js : List ℕ) → AllZip (SolvesAt (take at ss)) gs js → AllZip (before at) gs (map (λ j. cost_in (slice_get (take at ss) j)) js)
  costs_at at [] [] h = tt
  costs_at at [] (j ∷ js) h = h
  costs_at at (g ∷ gs) [] h = h
  costs_at at (g ∷ gs) (j ∷ js) h =
      let (s, found, is) = h.0 in let place = get_take ss at j s found in
      ((j, place.0, (s, place.1, is, sym (ap cost_in found))), costs_at at gs js h.1)

  gives : (at : ℕ) (s : Solution) → IsSolution m (take at ss) s → Gives (before at) (m.alternative s.goal s.k) s.cost
  gives at s is = (map (λ j. cost_in (slice_get (take at ss) j)) s.inputs, costs_at at (m.alternative s.goal s.k).inputs s.inputs is.inputs, sym is.cost)

  all_capped : (at : ℕ) (gs cs : List ℕ) → ((j : ℕ) (s : Solution) → j < at → slice_get ss j ≡ Some s → s.cost ≤ cap) → AllZip (before at) gs cs → AllByRecursion (λ c. c ≤ cap) cs
  all_capped at [] [] low h = tt
  all_capped at [] (c ∷ cs) low h = absurd h
  all_capped at (g ∷ gs) [] low h = absurd h
  all_capped at (g ∷ gs) (c ∷ cs) low h = let (j, l, (s, found, is, costs)) = h.0 in (omega (arith, costs, low j s l found), all_capped at gs cs low h.1)

  capped_below : (n at : ℕ) (s : Solution) → at < n → slice_get ss at ≡ Some s → s.cost ≤ cap
  capped_below zero at s l e = absurd (omega (arith, l))
  capped_below (suc n) at s l e =
      let is = sound at s e in let g = gives at s is in
      omega (arith, g.2, laws.bounded s.goal s.k g.0 is.alternative (all_capped at (m.alternative s.goal s.k).inputs g.0 (λ j r b found. capped_below n j r (omega (arith, b, l)) found) g.1))

  -- a solution costs at most the cap
  pub solution_capped : (at : ℕ) (s : Solution) → slice_get ss at ≡ Some s → s.cost ≤ cap
  solution_capped at s e = capped_below (suc at) at s (omega arith) e

  module _ (t : Known) (covered : (g k : ℕ) → IsAlternative m g k → t.bound g ≤ at_bounds t (m.alternative g k)) where
    low_below : (n at : ℕ) (s : Solution) → at < n → slice_get ss at ≡ Some s → t.bound s.goal ≤ s.cost
    low_below zero at s l e = absurd (omega (arith, l))
    low_below (suc n) at s l e = by_earlier (λ i d (j, b, (r, found, is, costs)). omega (arith, costs, subst (λ g. t.bound g ≤ r.cost) is (low_below n j r (omega (arith, b, l)) found))) where
      capped : (i d : ℕ) → before at i d → d ≤ cap
      capped i d (j, b, (r, found, is, costs)) = omega (arith, costs, solution_capped j r found)

      by_earlier : ((i d : ℕ) → before at i d → t.bound i ≤ d) → t.bound s.goal ≤ s.cost
      by_earlier low = (let is = sound at s e in omega (arith, covered s.goal s.k is.alternative, at_low m laws s.goal s.k is.alternative (before at) t s.cost low capped (gives at s is)))

    -- a solution costs at least its goal's value
    pub solution_low : (at : ℕ) (s : Solution) → slice_get ss at ≡ Some s → t.bound s.goal ≤ s.cost
    solution_low at s e = low_below (suc at) at s (omega arith) e

pub reach_capped : (m : Graph) → AreChoices m → (g c : ℕ) → reaches m g c → c ≤ cap
reach_capped m laws g c (ss, sound, at, (s, found, is, costs)) = omega (arith, costs, solution_capped m laws ss sound at s found)

pub reach_low : (m : Graph) → AreChoices m → (t : Known) → ((g k : ℕ) → IsAlternative m g k → t.bound g ≤ at_bounds t (m.alternative g k)) → (g c : ℕ) → reaches m g c → t.bound g ≤ c
reach_low m laws t covered g c (ss, sound, at, (s, found, is, costs)) = omega (arith, costs, subst (λ h. t.bound h ≤ s.cost) is (solution_low m laws ss sound t covered at s found))
