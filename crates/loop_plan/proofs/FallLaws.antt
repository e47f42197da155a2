-- What is held of values and solutions, as goals fall.
use Rattle.std.proofs.Common.{◌≡◌, ◌≢◌, ℕ, ◌+◌, ◌≤◌, ◌<◌, ◌⊎◌, false, List, [], ◌∷◌, ◌++◌, length, map, take, Contains, Option, Some, None, slice_get, refl, ap, sym, ◌∙◌, subst, arith, inl, inr}
use Rattle.std.proofs.lemmas.Bool.{cases_eq}
use Rattle.pr_value.specs.Capped.{cap}
use Rattle.best_plan.specs.Moves.{Alternative, Graph, IsAlternative, IsUnfolded, AreChoices}
use Rattle.best_plan.specs.Solutions.{cost_in, SolvesAt, IsSolution, AreSound}
use Rattle.best_plan.specs.Tables.{Known, known, past_cap, at_bounds}
use Rattle.best_plan.specs.declared.solution.Solution.{Solution}
use Rattle.best_plan.specs.declared.table.Entry.{Entry}
use Rattle.best_plan.proofs.BoundLaws.{at_cost, within_of, within_each}
use Rattle.best_plan.proofs.RightLaws.{IsPut, put_is}
use Rattle.loop_plan.specs.Fallen.{Fallen, value, last, Ends, IsFallen, place_in, places, solution, IsFall, IsHeldBy, IsHeld}
use Rattle.loop_plan.specs.Leads.{Leads}
use Rattle.loop_plan.specs.Reached.{IsReached, IsMet, bound}
use Rattle.loop_plan.specs.Reaching.{CostsAt, reaches}
use Rattle.loop_plan.specs.Waiting.{IsSeen}
use Rattle.loop_plan.specs.declared.reached.Reached.{Reached}
use Rattle.loop_plan.specs.declared.way.Way.{Way}
use Rattle.loop_plan.proofs.LeadsLaws.{leads_more}
use Rattle.loop_plan.proofs.LeastLaws.{reach_capped, reach_low}
use Rattle.loop_plan.proofs.ListLaws.{get_append, get_last, get_push, take_more, take_whole, zip_map, map_map, map_same, place_less, all_in}
use Rattle.loop_plan.proofs.ReachedLaws.{leads_met}
use Rattle.loop_plan.proofs.WaitingLaws.{there_of}

-- a sound list stays sound with one more solution from it
sound_more : (m : Graph) (ss : List Solution) (s : Solution) → AreSound m ss → IsSolution m ss s → AreSound m (ss ++ s ∷ [])
sound_more m ss s sound is at r e = by_place (get_push ss s at r e) where
  by_place : (slice_get ss at ≡ Some r) ⊎ ((at ≡ length ss) × (r ≡ s)) → IsSolution m (take at (ss ++ s ∷ [])) r
  by_place (inl h) = subst (λ rs. IsSolution m rs r) (sym (take_more ss (s ∷ []) at (let l = place_less ss at r h in omega (arith, l)))) (sound at r h)
  by_place (inr h) = subst (λ (q : Solution). IsSolution m (take at (ss ++ s ∷ [])) q) (sym h.1)
      (subst (λ rs. IsSolution m rs s) (sym (ap (λ i. take i (ss ++ s ∷ [])) h.0 ∙ (take_more ss (s ∷ []) (length ss) (omega arith) ∙ take_whole ss))) is)

costs_more : (ss : List Solution) (s : Solution) (g c at : ℕ) → CostsAt ss g c at → CostsAt (ss ++ s ∷ []) g c at
costs_more ss s g c at (r, found, is, costs) = (r, get_append ss (s ∷ []) at r found, is, costs)

held_more : (ss : List Solution) (s : Solution) (g v : ℕ) (o : Option ℕ) → IsHeldBy ss g v o → IsHeldBy (ss ++ s ∷ []) g v o
held_more ss s g v None h = h
held_more ss s g v (Some at) h = costs_more ss s g v at h

module _ (m : Graph) (laws : AreChoices m) (root : ℕ) (f : Fallen) (held : IsHeld m root f) (w : Way) (is : IsAlternative m w.goal w.k) where
  abbrev t : Known
  t = known f.entries

  abbrev a : Alternative
  a = m.alternative w.goal w.k

  abbrev v : ℕ
  v = at_bounds t a

  -- a value but 0 shows that the root leads to the goal
  led_of : (g : ℕ) → 0 < value f g → Leads m root g × IsHeldBy f.solutions g (value f g) (last f g)
  led_of g l = elim (held.each g) [ inl h ↦ h | inr n ↦ absurd (omega (arith, l, n.1)) ]

  held_at : (h : ℕ) (o : Option ℕ) → value f h ≤ cap → IsHeldBy f.solutions h (value f h) o → CostsAt f.solutions h (value f h) (place_in o)
  held_at h None l e = absurd (omega (arith, l, e))
  held_at h (Some at) l c = c

  module _ (less : v < value f w.goal) (high : value f w.goal ≤ cap + 1) where
    led : Leads m root w.goal
    led = (led_of w.goal (omega (arith, less))).0

    within : past_cap t a.inputs ≡ false
    within = within_of m laws w.goal w.k is t (value f w.goal) high less

    -- each input has a last solution, of its value
    input_costs : (h : ℕ) → Contains a.inputs h → CostsAt f.solutions h (value f h) (place_in (last f h))
    input_costs h c = by_leads (held.each h) where
      by_leads : (Leads m root h × IsHeldBy f.solutions h (value f h) (last f h)) ⊎ ((Leads m root h → ⊥) × (value f h ≡ 0) × (last f h ≡ None)) → CostsAt f.solutions h (value f h) (place_in (last f h))
      by_leads (inl l) = held_at h (last f h) (all_in (λ i. t.bound i ≤ cap) a.inputs (within_each t a.inputs within) h c) l.1
      by_leads (inr n) = absurd (n.0 (leads_more m root w.goal h led (w.k, is, c)))

    input_solves : (h : ℕ) → Contains a.inputs h → SolvesAt f.solutions h (place_in (last f h))
    input_solves h c = let (s, found, goal, costs) = input_costs h c in (s, found, goal)

    input_cost : (h : ℕ) → Contains a.inputs h → cost_in (slice_get f.solutions (place_in (last f h))) ≡ value f h
    input_cost h c = let (s, found, goal, costs) = input_costs h c in ap cost_in found ∙ costs

    costs_are : map (λ at. cost_in (slice_get f.solutions at)) (places t a.inputs) ≡ map t.bound a.inputs
    costs_are =
        map_map (λ at. cost_in (slice_get f.solutions at)) (λ h. place_in (t.choice h)) a.inputs ∙ map_same (λ h. cost_in (slice_get f.solutions (place_in (t.choice h)))) t.bound a.inputs input_cost

    is_solution : IsSolution m f.solutions (solution m t w)
    is_solution = record {
      alternative = is;
      inputs = zip_map (SolvesAt f.solutions) (λ h. place_in (t.choice h)) a.inputs input_solves;
      cost = at_cost t a within ∙ sym (ap a.cost costs_are);
    }

    module _ (f' : Fallen) (fall : IsFall m w f f') where
      put : IsPut t (known f'.entries) w.goal v (Some (length f.solutions))
      put = subst (λ (es : List Entry). IsPut t (known es) w.goal v (Some (length f.solutions))) (sym fall.entries)
          (put_is f.entries w.goal (record { bound = v; choice = Some (length f.solutions) }) (there_of f.entries w.goal v less))

      in_new : (g c : ℕ) (o : Option ℕ) → IsHeldBy (f.solutions ++ solution m t w ∷ []) g c o → IsHeldBy f'.solutions g c o
      in_new g c o h = subst (λ (ss : List Solution). IsHeldBy ss g c o) (sym fall.solutions) h

      newest : IsHeldBy f'.solutions w.goal (value f' w.goal) (last f' w.goal)
      newest = subst (λ c. IsHeldBy f'.solutions w.goal c (last f' w.goal)) (sym put.bound) (subst (IsHeldBy f'.solutions w.goal v) (sym put.choice)
          (in_new w.goal v (Some (length f.solutions)) (solution m t w, get_last f.solutions (solution m t w), refl, refl)))

      kept : (g : ℕ) → g ≢ w.goal → IsHeldBy f.solutions g (value f g) (last f g) → IsHeldBy f'.solutions g (value f' g) (last f' g)
      kept g d h = subst (λ c. IsHeldBy f'.solutions g c (last f' g)) (sym (put.others g d).0) (subst (IsHeldBy f'.solutions g (value f g)) (sym (put.others g d).1)
          (in_new g (value f g) (last f g) (held_more f.solutions (solution m t w) g (value f g) (last f g) h)))

      pub held_fall : IsHeld m root f'
      held_fall = record {
        sound = subst (AreSound m) (sym fall.solutions) (sound_more m f.solutions (solution m t w) held.sound is_solution);
        each = each;
      } where
        each : (g : ℕ) → (Leads m root g × IsHeldBy f'.solutions g (value f' g) (last f' g)) ⊎ ((Leads m root g → ⊥) × (value f' g ≡ 0) × (last f' g ≡ None))
        each g = by_same (cases_eq g w.goal) (held.each g) where
          by_same : (g ≡ w.goal) ⊎ (g ≡ w.goal → ⊥) → (Leads m root g × IsHeldBy f.solutions g (value f g) (last f g)) ⊎ ((Leads m root g → ⊥) × (value f g ≡ 0) × (last f g ≡ None))
              → (Leads m root g × IsHeldBy f'.solutions g (value f' g) (last f' g)) ⊎ ((Leads m root g → ⊥) × (value f' g ≡ 0) × (last f' g ≡ None))
          by_same (inl e) h = inl (subst (Leads m root) (sym e) led, subst (λ i. IsHeldBy f'.solutions i (value f' i) (last f' i)) (sym e) newest)
          by_same (inr d) (inl h) = inl (h.0, kept g d h.1)
          by_same (inr d) (inr n) = inr (n.0, (put.others g d).0 ∙ n.1, (put.others g d).1 ∙ n.2)

-- at the start no goal that the root leads to has a solution
pub held_first : (m : Graph) (r : Reached) → IsReached m r (length r.ways) → bound r r.root ≡ cap + 1 → IsHeld m r.root (record { solutions = []; entries = r.table })
held_first m r is root = record { sound = λ at s e. cc; each = λ g. by_met g (is.each g) } where
  by_met : (g : ℕ) → (bound r g ≡ 0) ⊎ IsMet m r g → (Leads m r.root g × IsHeldBy [] g (bound r g) ((known r.table).choice g)) ⊎ ((Leads m r.root g → ⊥) × (bound r g ≡ 0) × ((known r.table).choice g ≡ None))
  by_met g (inl z) = inr ((λ l. omega (arith, z, (leads_met m r is root g l).past)), z, is.none g)
  by_met g (inr met) = inl (met.leads, subst (IsHeldBy [] g (bound r g)) (sym (is.none g)) met.past)

-- the end: no alternative costs less than its goal's value
module _ (m : Graph) (laws : AreChoices m) (root : ℕ) (f : Fallen) (held : IsHeld m root f) (covered : (w : Way) → IsAlternative m w.goal w.k → IsSeen m (known f.entries) [] (λ v. ⊥) w) where
  covers : (g k : ℕ) → IsAlternative m g k → value f g ≤ at_bounds (known f.entries) (m.alternative g k)
  covers g k is = by_cases (covered (record { goal = g; k = k }) is) where
    by_cases : IsSeen m (known f.entries) [] (λ v. ⊥) (record { goal = g; k = k }) → value f g ≤ at_bounds (known f.entries) (m.alternative g k)
    by_cases (inl h) = h
    by_cases (inr (inl n)) = absurd (omega (arith, n.2.1))
    by_cases (inr (inr n)) = absurd n

  ends_by : (g : ℕ) (o : Option ℕ) → IsHeldBy f.solutions g (value f g) o → Ends m f.solutions g (value f g) o
  ends_by g None e = (e, λ c r. omega (arith, e, reach_low m laws (known f.entries) covers g c r, reach_capped m laws g c r))
  ends_by g (Some at) h =
      let here : reaches m g (value f g) = (f.solutions, held.sound, at, h) in
      (reach_capped m laws g (value f g) here, (here, reach_low m laws (known f.entries) covers g), h)

  ends : (g : ℕ) → Leads m root g → Ends m f.solutions g (value f g) (last f g)
  ends g l = elim (held.each g) [ inl h ↦ ends_by g (last f g) h.1 | inr n ↦ absurd (n.0 l) ]

  others : (g : ℕ) → (Leads m root g → ⊥) → (value f g ≡ 0) × (last f g ≡ None)
  others g n = elim (held.each g) [ inl h ↦ absurd (n h.0) | inr o ↦ (o.1, o.2) ]

  pub is_fallen : ((g : ℕ) → Leads m root g → IsUnfolded m g) → IsFallen m root f
  is_fallen unfolded = record { sound = held.sound; unfolded = unfolded; ends = ends; others = others; covered = covers }
