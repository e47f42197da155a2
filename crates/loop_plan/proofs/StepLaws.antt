-- The steps of falling, from the goals that were met to the last fall.
use Rattle.std.proofs.Common.{◌≡◌, ℕ, ◌+◌, ◌≤◌, ◌<◌, ◌⊎◌, List, [], ◌∷◌, length, Contains, Option, Some, None, IsPermutation, slice_get, refl, sym, subst, arith, inl, inr}
use Rattle.pr_value.specs.Capped.{cap}
use Rattle.best_plan.specs.Moves.{Graph, IsAlternative, AreChoices}
use Rattle.best_plan.specs.Tables.{known, at_bounds}
use Rattle.best_plan.specs.declared.table.Entry.{Entry}
use Rattle.best_plan.proofs.RightLaws.{IsPut, put_is}
use Rattle.loop_plan.specs.Fallen.{Fallen, value, last, IsFall, IsHeldBy, IsHeld, IsCovered}
use Rattle.loop_plan.specs.Reached.{IsReached, bound}
use Rattle.loop_plan.specs.Uses.{uses_at, IsUses}
use Rattle.loop_plan.specs.Waiting.{note, IsSeen, IsFrom, total, AreLowered}
use Rattle.loop_plan.specs.declared.note.Note.{Note}
use Rattle.loop_plan.specs.declared.reached.Reached.{Reached}
use Rattle.loop_plan.specs.declared.way.Way.{Way}
use Rattle.loop_plan.proofs.FallLaws.{held_fall, held_first}
use Rattle.loop_plan.proofs.LeastLaws.{solution_capped}
use Rattle.loop_plan.proofs.ListLaws.{contains_get}
use Rattle.loop_plan.proofs.WaitingLaws.{fallen_le, none_from, seen_fall, seen_stay, seen_taken, total_falls, there_of}

-- no value is past one more than the cap
pub value_high : (m : Graph) → AreChoices m → (root : ℕ) (f : Fallen) → IsHeld m root f → (g : ℕ) → value f g ≤ cap + 1
value_high m laws root f held g = elim (held.each g) [ inl h ↦ by_last (last f g) h.1 | inr n ↦ omega (arith, n.1) ] where
  by_last : (o : Option ℕ) → IsHeldBy f.solutions g (value f g) o → value f g ≤ cap + 1
  by_last None e = omega (arith, e)
  by_last (Some at) (s, found, is, costs) = omega (arith, costs, solution_capped m laws f.solutions held.sound at s found)

pub lowered_none : (m : Graph) (ws : List Way) (f : Fallen) (notes : List Note) (n : ℕ) → AreLowered m ws 0 f f notes notes n n
lowered_none m ws f notes n = record { held = λ root h. h; seen = λ w is h. h; falls = λ g. omega arith; measure = omega arith }

-- the alternative at place i is looked at
module _ (m : Graph) (ws : List Way) (i : ℕ) (x : Way) (at : slice_get ws i ≡ Some x) (old now : Fallen) (notes notes' : List Note) (n n' : ℕ) (lowered : AreLowered m ws i old now notes notes' n n') where
  pub lowered_stay : IsCovered m (known now.entries) x → AreLowered m ws (i + 1) old now notes notes' n n'
  lowered_stay covers = record {
    held = lowered.held;
    seen = λ w is h. seen_stay m (known now.entries) (known now.entries) notes' notes' ws i x at covers w (lowered.seen w is h);
    falls = lowered.falls;
    measure = lowered.measure;
  }

  pub lowered_same : (new : Fallen) (notes'' : List Note) (n'' : ℕ) → (new ≡ now) × IsCovered m (known now.entries) x → notes'' ≡ notes' → n'' ≡ n' → AreLowered m ws (i + 1) old new notes notes'' n n''
  lowered_same new notes'' n'' same e f =
      subst (λ (fs : Fallen). AreLowered m ws (i + 1) old fs notes notes'' n n'') (sym same.0)
      (subst (λ (ns : List Note). AreLowered m ws (i + 1) old now notes ns n n'') (sym e) (subst (λ k. AreLowered m ws (i + 1) old now notes notes' n k) (sym f) (lowered_stay same.1)))

  module _ (laws : AreChoices m) (is : IsAlternative m x.goal x.k) (new : Fallen) (fall : IsFall m x now new) (notes'' : List Note) (n'' : ℕ) (more : IsPermutation (note (known new.entries) x.goal ∷ notes') notes'') (one : n'' ≡ n' + 1) where
    abbrev cost : ℕ
    cost = at_bounds (known now.entries) (m.alternative x.goal x.k)

    put : IsPut (known now.entries) (known new.entries) x.goal cost (Some (length now.solutions))
    put = subst (λ (es : List Entry). IsPut (known now.entries) (known es) x.goal cost (Some (length now.solutions))) (sym fall.entries)
        (put_is now.entries x.goal (record { bound = cost; choice = Some (length now.solutions) }) (there_of now.entries x.goal cost fall.less))

    lower : total new.entries < total now.entries
    lower = subst (λ (es : List Entry). total es < total now.entries) (sym fall.entries) (total_falls now.entries x.goal cost (Some (length now.solutions)) fall.less)

    pub lowered_fall : AreLowered m ws (i + 1) old new notes notes'' n n''
    lowered_fall = record {
      held = λ root h. (let held = lowered.held root h in held_fall m laws root now held x is fall.less (value_high m laws root now held x.goal) new fall);
      seen = λ w alternative h. seen_fall m (known now.entries) (known new.entries) notes' notes'' ws i x at cost (Some (length now.solutions)) put refl (omega (arith, fall.less)) more w (lowered.seen w alternative h);
      falls = λ g. omega (arith, lowered.falls g, fallen_le m (known now.entries) (known new.entries) notes' notes'' ws i x at cost (Some (length now.solutions)) put refl (omega (arith, fall.less)) more g);
      measure = omega (arith, lowered.measure, lower, one);
    }

-- every alternative of a goal that was met is listed
pub listed_first : (m : Graph) (r : Reached) (n : ℕ) → IsReached m r n → (w : Way) → IsAlternative m w.goal w.k → (bound r w.goal ≡ 0) ⊎ Contains r.ways w
listed_first m r n reached w is = elim (reached.each w.goal) [ inl z ↦ inl z | inr met ↦ inr (met.all w.k is.2) ]

pub seen_first : (m : Graph) (r : Reached) (n : ℕ) → IsReached m r n → (notes : List Note) (w : Way) → IsAlternative m w.goal w.k → IsSeen m (known r.table) notes (IsFrom r.ways 0) w
seen_first m r n reached notes w is = elim (listed_first m r n reached w is) [
  | inl z ↦ inl (omega (arith, z))
  | inr c ↦ (let (j, at) = contains_get r.ways w c in inr (inr (j, omega arith, at)))
]

pub listed_on : (ws : List Way) (old new : Fallen) → ((g : ℕ) → value new g ≤ value old g) → (w : Way) → (value old w.goal ≡ 0) ⊎ Contains ws w → (value new w.goal ≡ 0) ⊎ Contains ws w
listed_on ws old new falls w (inl z) = inl (omega (arith, z, falls w.goal))
listed_on ws old new falls w (inr c) = inr c

-- the falls once all that was met was looked at
module _ (m : Graph) (r : Reached) (reached : IsReached m r (length r.ways)) (ws : List Way) (all : ws ≡ r.ways) (old new : Fallen) (start : old ≡ record { solutions = []; entries = r.table }) (notes notes' : List Note) (n n' : ℕ)
    (lowered : AreLowered m ws (length ws) old new notes notes' n n') where
  pub first_held : bound r r.root ≡ cap + 1 → IsHeld m r.root new
  first_held root = lowered.held r.root (subst (λ (f : Fallen). IsHeld m r.root f) (sym start) (held_first m r reached root))

  pub first_seen : (w : Way) → IsAlternative m w.goal w.k → IsSeen m (known new.entries) notes' (λ v. ⊥) w
  first_seen w is = none_from m (known new.entries) notes' ws w (lowered.seen w is before) where
    from_all : IsSeen m (known r.table) notes (IsFrom ws 0) w
    from_all = subst (λ (vs : List Way). IsSeen m (known r.table) notes (IsFrom vs 0) w) (sym all) (seen_first m r (length r.ways) reached notes w is)

    before : IsSeen m (known old.entries) notes (IsFrom ws 0) w
    before = subst (λ (f : Fallen). IsSeen m (known f.entries) notes (IsFrom ws 0) w) (sym start) from_all

  pub first_listed : (w : Way) → IsAlternative m w.goal w.k → (value new w.goal ≡ 0) ⊎ Contains r.ways w
  first_listed w is = listed_on r.ways old new lowered.falls w
      (subst (λ (f : Fallen). (value f w.goal ≡ 0) ⊎ Contains r.ways w) (sym start) (listed_first m r (length r.ways) reached w is))

-- the alternatives that a goal is an input of were looked at, after it was taken from the notes
module _ (m : Graph) (vs ws : List Way) (uses : List (List Way)) (is_uses : IsUses m vs (length vs) uses) (x : Note) (used : ws ≡ uses_at uses x.goal) (old new : Fallen) (notes notes' notes'' : List Note) (n n' : ℕ)
    (taken : IsPermutation notes (x ∷ notes')) (lowered : AreLowered m ws (length ws) old new notes' notes'' n n') where
  pub seen_next : (w : Way) → IsAlternative m w.goal w.k → (value old w.goal ≡ 0) ⊎ Contains vs w → IsSeen m (known old.entries) notes (λ v. ⊥) w → IsSeen m (known new.entries) notes'' (λ v. ⊥) w
  seen_next w is listed seen = none_from m (known new.entries) notes'' ws w (lowered.seen w is
      (subst (λ (us : List Way). IsSeen m (known old.entries) notes' (IsFrom us 0) w) (sym used) (seen_taken m (known old.entries) notes notes' x taken vs uses is_uses w listed seen)))

pub no_notes : (notes : List Note) → length notes ≡ 0 → notes ≡ []
no_notes [] e = refl
no_notes (x ∷ xs) e = absurd (omega (arith, e))
