-- What was met stays met, and what is listed next.
use Rattle.std.proofs.Common.{◌≡◌, ◌≢◌, ℕ, zero, suc, ◌+◌, ◌≤◌, ◌<◌, ◌⊎◌, true, List, [], ◌∷◌, ◌++◌, length, Contains, Some, None, slice_get, refl, ap, sym, ◌∙◌, subst, arith, inl, inr}
use Rattle.std.proofs.lemmas.Bool.{cases_eq}
use Rattle.std.proofs.lemmas.List.Elements.{Contains-append_left, Contains-append_right, Contains-append_cases, Contains-push, Contains-push_cases}
use Rattle.pr_value.specs.Capped.{cap}
use Rattle.best_plan.specs.Moves.{Alternative, Graph, IsAlternative, Extends}
use Rattle.best_plan.specs.Tables.{known, with_room}
use Rattle.best_plan.specs.declared.table.Entry.{Entry}
use Rattle.best_plan.proofs.RightLaws.{IsPut, put_is}
use Rattle.best_plan.proofs.TableLaws.{room_kept, length_room}
use Rattle.loop_plan.specs.Leads.{IsInputOf, Leads}
use Rattle.loop_plan.specs.Reached.{IsMet, IsReached, Grows, bound, inputs, ways_of, with_met}
use Rattle.loop_plan.specs.declared.reached.Reached.{Reached}
use Rattle.loop_plan.specs.declared.way.Way.{Way}
use Rattle.loop_plan.proofs.ListLaws.{place_less, get_append, get_within, contains_get, get_contains, some_is, none_contained, no_shorter}
use Rattle.loop_plan.proofs.LeadsLaws.{alternative_on, unfolded_on, leads_on, leads_more, closed}

pub grows_self : (r : Reached) → Grows r r
grows_self r = record { root = refl; met = λ g e. e; ways = λ j w e. e }

pub grows_on : (r s t : Reached) → Grows r s → Grows s t → Grows r t
grows_on r s t a b = record { root = b.root ∙ a.root; met = λ g e. b.met g (a.met g e); ways = λ j w e. b.ways j w (a.ways j w e) }

-- the inputs of an alternative stay
pub inputs_on : (m m' : Graph) → Extends m m' → (w : Way) → IsAlternative m w.goal w.k → inputs m' w ≡ inputs m w
inputs_on m m' ext w is = ap (λ (a : Alternative). a.inputs) (ext.alternative w.goal w.k is.1)

has_way : (g n k : ℕ) → k < n → Contains (ways_of g n) (record { goal = g; k = k })
has_way g zero k l = absurd (omega (arith, l))
has_way g (suc n) k l = by_place (cases_eq k n) (has_way g n k) where
  by_place : (k ≡ n) ⊎ (k ≡ n → ⊥) → (k < n → Contains (ways_of g n) (record { goal = g; k = k })) → Contains (ways_of g n ++ record { goal = g; k = n } ∷ []) (record { goal = g; k = k })
  by_place (inl e) before = subst (λ i. Contains (ways_of g n ++ record { goal = g; k = n } ∷ []) (record { goal = g; k = i })) (sym e) (Contains-push (ways_of g n) (record { goal = g; k = n }))
  by_place (inr d) before = Contains-append_left (ways_of g n) (record { goal = g; k = n } ∷ []) (record { goal = g; k = k }) (before (omega (arith, l, d)))

way_is : (g n : ℕ) (w : Way) → Contains (ways_of g n) w → (w.goal ≡ g) × (w.k < n)
way_is g zero w c = absurd (omega (arith, c.1))
way_is g (suc n) w c = elim (Contains-push_cases (ways_of g n) (record { goal = g; k = n }) w c) [
  | inl h ↦ (let b = way_is g n w h in (b.0, omega (arith, b.1)))
  | inr e ↦ (ap (λ (v : Way). v.goal) (sym e), omega (arith, ap (λ (v : Way). v.k) e))
]

-- one more goal is met: m and r before, m' after it was unfolded
module _ (m m' : Graph) (ext : Extends m m') (r : Reached) (g : ℕ) (there : g < m'.goals) where
  abbrev n : ℕ
  n = m'.count g

  abbrev after : Reached
  after = with_met r m'.goals g n

  put : IsPut (known (with_room r.table m'.goals)) (known after.table) g (cap + 1) None
  put = put_is (with_room r.table m'.goals) g (record { bound = cap + 1; choice = None }) (omega (arith, there, length_room r.table m'.goals))

  pub met_now : bound after g ≡ cap + 1
  met_now = put.bound

  others : (h : ℕ) → h ≢ g → bound after h ≡ bound r h
  others h d = (put.others h d).0 ∙ (room_kept r.table m'.goals h).0

  stays_met : (h : ℕ) → bound r h ≡ cap + 1 → bound after h ≡ cap + 1
  stays_met h e = by_same (cases_eq h g) where
    by_same : (h ≡ g) ⊎ (h ≡ g → ⊥) → bound after h ≡ cap + 1
    by_same (inl s) = subst (λ i. bound after i ≡ cap + 1) (sym s) met_now
    by_same (inr d) = others h d ∙ e

  pub met_grows : Grows r after
  met_grows = record { root = refl; met = stays_met; ways = λ j w e. get_append r.ways (ways_of g n) j w e }

  met_on : (h : ℕ) → IsMet m r h → IsMet m' after h
  met_on h is = record {
    past = stays_met h is.past;
    leads = leads_on m m' ext r.root h is.leads;
    unfolded = unfolded_on m m' ext h is.unfolded;
    all = λ k l. Contains-append_left r.ways (ways_of g n) (record { goal = h; k = k }) (is.all k (omega (arith, l, ext.count h is.unfolded.1)));
  }

  module _ (is_unfolded : m'.unfolded g ≡ true) (leads : Leads m r.root g) where
    new_met : IsMet m' after g
    new_met = record {
      past = met_now;
      leads = leads_on m m' ext r.root g leads;
      unfolded = (there, is_unfolded);
      all = λ k l. Contains-append_right r.ways (ways_of g n) (record { goal = g; k = k }) (has_way g n k l);
    }

    each_after : (i : ℕ) → IsReached m r i → (h : ℕ) → (bound after h ≡ 0) ⊎ IsMet m' after h
    each_after i is h = by_same (cases_eq h g) (is.each h) where
      by_same : (h ≡ g) ⊎ (h ≡ g → ⊥) → (bound r h ≡ 0) ⊎ IsMet m r h → (bound after h ≡ 0) ⊎ IsMet m' after h
      by_same (inl s) o = inr (subst (IsMet m' after) (sym s) new_met)
      by_same (inr d) (inl z) = inl (others h d ∙ z)
      by_same (inr d) (inr met) = inr (met_on h met)

    none_after : (i : ℕ) → IsReached m r i → (h : ℕ) → (known after.table).choice h ≡ None
    none_after i is h = by_same (cases_eq h g) where
      by_same : (h ≡ g) ⊎ (h ≡ g → ⊥) → (known after.table).choice h ≡ None
      by_same (inl s) = subst (λ j. (known after.table).choice j ≡ None) (sym s) put.choice
      by_same (inr d) = (put.others h d).1 ∙ ((room_kept r.table m'.goals h).1 ∙ is.none h)

    ways_after : (i : ℕ) → IsReached m r i → (w : Way) → Contains (r.ways ++ ways_of g n) w → IsAlternative m' w.goal w.k × (bound after w.goal ≡ cap + 1)
    ways_after i is w c = elim (Contains-append_cases r.ways (ways_of g n) w c) [
      | inl h ↦ (let b = is.ways w h in (alternative_on m m' ext w.goal w.k b.0, stays_met w.goal b.1))
      | inr h ↦ (let b = way_is g n w h in
          (subst (λ x. IsAlternative m' x w.k) (sym b.0) (there, is_unfolded, b.1), subst (λ x. bound after x ≡ cap + 1) (sym b.0) met_now))
    ]

    inputs_after : (i : ℕ) → i ≤ length r.ways → IsReached m r i → (j : ℕ) (w : Way) → j < i → slice_get (r.ways ++ ways_of g n) j ≡ Some w → (h : ℕ) → Contains (inputs m' w) h → bound after h ≡ cap + 1
    inputs_after i few is j w l e h c =
        let was = get_within r.ways (ways_of g n) j w (omega (arith, l, few)) e in
        let alternative = (is.ways w (get_contains r.ways j w was)).0 in
        stays_met h (is.inputs j w l was h (subst (λ hs. Contains hs h) (inputs_on m m' ext w alternative) c))

    pub met_reached : (i : ℕ) → i ≤ length r.ways → IsReached m r i → IsReached m' after i
    met_reached i few is = record { each = each_after i is; none = none_after i is; ways = ways_after i is; inputs = inputs_after i few is }

-- of fewer alternatives the inputs were met, too
pub reached_fewer : (m : Graph) (r : Reached) (n i : ℕ) → i ≤ n → IsReached m r n → IsReached m r i
reached_fewer m r n i l is = record { each = is.each; none = is.none; ways = is.ways; inputs = λ j w h. is.inputs j w (omega (arith, l, h)) }

-- the inputs of one more alternative were met
pub reached_more : (m m' : Graph) → Extends m m' → (r s : Reached) (n : ℕ) (w : Way) → Grows r s → slice_get r.ways n ≡ Some w → IsAlternative m w.goal w.k
    → ((h : ℕ) → Contains (inputs m w) h → bound s h ≡ cap + 1) → IsReached m' s n → IsReached m' s (n + 1)
reached_more m m' ext r s n w grows e alternative met is = record { each = is.each; none = is.none; ways = is.ways; inputs = by_place } where
  by_place : (j : ℕ) (v : Way) → j < n + 1 → slice_get s.ways j ≡ Some v → (h : ℕ) → Contains (inputs m' v) h → bound s h ≡ cap + 1
  by_place j v l f h c = by_same (cases_eq j n) where
    by_same : (j ≡ n) ⊎ (j ≡ n → ⊥) → bound s h ≡ cap + 1
    by_same (inl t) = (let same : w ≡ v = is_same (subst (λ i. slice_get s.ways i ≡ Some v) t f) in
        met h (subst (λ hs. Contains hs h) (inputs_on m m' ext w alternative) (subst (λ (u : Way). Contains (inputs m' u) h) (sym same) c))) where
          is_same : slice_get s.ways n ≡ Some v → w ≡ v
          is_same q = some_is w v (sym (grows.ways n w e) ∙ q)
    by_same (inr d) = is.inputs j v (omega (arith, l, d)) f h c

-- all that the root leads to was met, once the inputs of all alternatives were
pub leads_met : (m : Graph) (r : Reached) → IsReached m r (length r.ways) → bound r r.root ≡ cap + 1 → (g : ℕ) → Leads m r.root g → IsMet m r g
leads_met m r is root g leads = met_of g (closed m (λ h. bound r h ≡ cap + 1) step r.root g root leads) where
  met_of : (h : ℕ) → bound r h ≡ cap + 1 → IsMet m r h
  met_of h e = elim (is.each h) [ inl z ↦ absurd (omega (arith, z, e)) | inr met ↦ met ]

  step : (h i : ℕ) → bound r h ≡ cap + 1 → IsInputOf m h i → bound r i ≡ cap + 1
  step h i e of =
      let (j, at) = contains_get r.ways (record { goal = h; k = of.0 }) ((met_of h e).all of.0 of.1.2) in
      is.inputs j (record { goal = h; k = of.0 }) (place_less r.ways j (record { goal = h; k = of.0 }) at) at i of.2

-- what was listed stays listed
pub still_listed : (r s : Reached) → Grows r s → (w : Way) → Contains r.ways w → Contains s.ways w
still_listed r s grows w c = let (j, at) = contains_get r.ways w c in get_contains s.ways j w (grows.ways j w at)

-- the root leads to the inputs of what is listed
pub input_led : (m : Graph) (r : Reached) (n : ℕ) → IsReached m r n → (w : Way) → Contains r.ways w → (i h : ℕ) → slice_get (inputs m w) i ≡ Some h → Leads m r.root h
input_led m r n is w c i h at = by_met (is.each w.goal) where
  alternative : IsAlternative m w.goal w.k
  alternative = (is.ways w c).0

  by_met : (bound r w.goal ≡ 0) ⊎ IsMet m r w.goal → Leads m r.root h
  by_met (inl z) = absurd (omega (arith, z, (is.ways w c).1))
  by_met (inr met) = leads_more m r.root w.goal h met.leads (w.k, alternative, get_contains (inputs m w) i h at)

-- nothing was met yet
pub reached_none : (m : Graph) (r : Reached) → r.table ≡ [] → r.ways ≡ [] → IsReached m r 0
reached_none m r empty none = record {
  each = λ g. inl (ap (λ (es : List Entry). (known es).bound g) empty);
  none = λ g. ap (λ (es : List Entry). (known es).choice g) empty;
  ways = λ w c. absurd (none_contained w (subst (λ ws. Contains ws w) none c));
  inputs = λ j w l e h c. absurd (omega (arith, l));
}

pub grown_long : (r s : Reached) → Grows r s → length r.ways ≤ length s.ways
grown_long r s grows = no_shorter r.ways s.ways grows.ways
