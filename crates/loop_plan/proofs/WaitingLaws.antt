-- What is still to be looked at, as values fall.
use Rattle.std.proofs.Common.{◌≡◌, ◌≢◌, ℕ, zero, suc, ◌+◌, ◌-◌, ◌≤◌, ◌<◌, ◌⊎◌, ◌||◌, List, [], ◌∷◌, length, map, Contains, Option, Some, IsPermutation, nat_lt, slice_get, slice_set, if◌then◌else◌, refl, ap, sym, ◌∙◌, subst, arith, inl, inr}
use Rattle.std.proofs.lemmas.Bool.{cases_eq}
use Rattle.std.proofs.lemmas.List.Sorted.{Contains-permutation}
use Rattle.std.proofs.lemmas.List.Sums.{sum_by-cons}
use Rattle.pr_value.specs.Capped.{cap}
use Rattle.best_plan.specs.Moves.{Alternative, Graph}
use Rattle.best_plan.specs.Tables.{Known, past_cap, at_bounds, bound_in}
use Rattle.best_plan.specs.declared.table.Entry.{Entry}
use Rattle.best_plan.proofs.RightLaws.{IsPut}
use Rattle.loop_plan.specs.Fallen.{IsCovered}
use Rattle.loop_plan.specs.Reached.{inputs}
use Rattle.loop_plan.specs.Uses.{uses_at, IsUses}
use Rattle.loop_plan.specs.Waiting.{note, IsNoted, IsSeen, IsFrom, total}
use Rattle.loop_plan.specs.declared.note.Note.{Note}
use Rattle.loop_plan.specs.declared.way.Way.{Way}
use Rattle.loop_plan.proofs.ListLaws.{contains_here, contains_there, contains_cases, contains_get, place_less, some_is, map_same, in_or_not}

past_same : (t t' : Known) (gs : List ℕ) → ((g : ℕ) → Contains gs g → t'.bound g ≡ t.bound g) → past_cap t' gs ≡ past_cap t gs
past_same t t' [] h = refl
past_same t t' (g ∷ gs) h =
    ap (λ b. nat_lt cap b || past_cap t' gs) (h g (contains_here g gs)) ∙ ap (λ p. nat_lt cap (t.bound g) || p) (past_same t t' gs (λ i c. h i (contains_there g gs i c)))

at_same : (t t' : Known) (a : Alternative) → ((g : ℕ) → Contains a.inputs g → t'.bound g ≡ t.bound g) → at_bounds t' a ≡ at_bounds t a
at_same t t' a h =
    ap (λ b. if b then cap + 1 else a.cost (map t'.bound a.inputs)) (past_same t t' a.inputs h) ∙ ap (λ cs. if past_cap t a.inputs then cap + 1 else a.cost cs) (map_same t'.bound t.bound a.inputs h)

-- where one goal's bound changes, it is an input, or the alternative costs what it did
at_either : (t t' : Known) (a : Alternative) (x : ℕ) → ((h : ℕ) → h ≢ x → t'.bound h ≡ t.bound h) → Contains a.inputs x ⊎ (at_bounds t' a ≡ at_bounds t a)
at_either t t' a x same = elim (in_or_not a.inputs x) [ inl c ↦ inl c | inr n ↦ inr (at_same t t' a (λ g c. same g (n g c))) ]

note_same : (t t' : Known) (h : ℕ) → t'.bound h ≡ t.bound h → note t' h ≡ note t h
note_same t t' h e = ap (λ b. record { below = cap + 1 - b; goal = h }) e

-- a fall of the alternative at place i, from t to t'
module _ (m : Graph) (t t' : Known) (notes notes' : List Note) (ws : List Way) (i : ℕ) (x : Way) (at : slice_get ws i ≡ Some x) where
  module _ (v : ℕ) (c : Option ℕ) (put : IsPut t t' x.goal v c) (is : v ≡ at_bounds t (m.alternative x.goal x.k)) (less : v ≤ t.bound x.goal) (more : IsPermutation (note t' x.goal ∷ notes) notes') where
    stays : (h : ℕ) → h ≢ x.goal → t'.bound h ≡ t.bound h
    stays h d = (put.others h d).0

    pub fallen_le : (h : ℕ) → t'.bound h ≤ t.bound h
    fallen_le h = by_same (cases_eq h x.goal) where
      by_same : (h ≡ x.goal) ⊎ (h ≡ x.goal → ⊥) → t'.bound h ≤ t.bound h
      by_same (inl e) = subst (λ g. t'.bound g ≤ t.bound g) (sym e) (omega (arith, put.bound, less))
      by_same (inr d) = omega (arith, stays h d)

    noted_now : Contains notes' (note t' x.goal)
    noted_now = Contains-permutation (note t' x.goal ∷ notes) notes' (note t' x.goal) more (contains_here (note t' x.goal) notes)

    noted_on : (w : Way) → IsNoted m t notes w → IsNoted m t' notes' w
    noted_on w n = by_same (cases_eq n.0 x.goal) where
      by_same : (n.0 ≡ x.goal) ⊎ (n.0 ≡ x.goal → ⊥) → IsNoted m t' notes' w
      by_same (inl e) = (n.0, n.1, subst (λ g. Contains notes' (note t' g)) (sym e) noted_now)
      by_same (inr d) = (
        n.0,
        n.1,
        subst (λ (k : Note). Contains notes' k) (sym (note_same t t' n.0 (stays n.0 d)))
            (Contains-permutation (note t' x.goal ∷ notes) notes' (note t n.0) more (contains_there (note t' x.goal) notes (note t n.0) n.2)),
      )

    -- it covered its goal's value, or set it
    covered_on : (w : Way) (low : t'.bound w.goal ≤ at_bounds t (m.alternative w.goal w.k)) → IsSeen m t' notes' (IsFrom ws (i + 1)) w
    covered_on w low = elim (at_either t t' (m.alternative w.goal w.k) x.goal stays) [
      | inl c ↦ inr (inl (x.goal, c, noted_now))
      | inr e ↦ inl (omega (arith, low, e))
    ]

    set_on : (w : Way) → x ≡ w → IsSeen m t' notes' (IsFrom ws (i + 1)) w
    set_on w e = subst (IsSeen m t' notes' (IsFrom ws (i + 1))) e (covered_on x (omega (arith, put.bound, is)))

    pub seen_fall : (w : Way) → IsSeen m t notes (IsFrom ws i) w → IsSeen m t' notes' (IsFrom ws (i + 1)) w
    seen_fall w (inl covered) = covered_on w (omega (arith, covered, fallen_le w.goal))
    seen_fall w (inr (inl noted)) = inr (inl (noted_on w noted))
    seen_fall w (inr (inr left)) = by_place (cases_eq left.0 i) where
      by_place : (left.0 ≡ i) ⊎ (left.0 ≡ i → ⊥) → IsSeen m t' notes' (IsFrom ws (i + 1)) w
      by_place (inl e) = set_on w (some_is x w (sym at ∙ subst (λ j. slice_get ws j ≡ Some w) e left.2))
      by_place (inr d) = inr (inr (left.0, omega (arith, left.1, d), left.2))

  -- no fall
  pub seen_stay : IsCovered m t x → (w : Way) → IsSeen m t notes (IsFrom ws i) w → IsSeen m t notes (IsFrom ws (i + 1)) w
  seen_stay covers w (inl covered) = inl covered
  seen_stay covers w (inr (inl noted)) = inr (inl noted)
  seen_stay covers w (inr (inr left)) = by_place (cases_eq left.0 i) where
    by_place : (left.0 ≡ i) ⊎ (left.0 ≡ i → ⊥) → IsSeen m t notes (IsFrom ws (i + 1)) w
    by_place (inl e) = inl (subst (IsCovered m t) (some_is x w (sym at ∙ subst (λ j. slice_get ws j ≡ Some w) e left.2)) covers)
    by_place (inr d) = inr (inr (left.0, omega (arith, left.1, d), left.2))

-- nothing is left behind the last place
pub none_from : (m : Graph) (t : Known) (notes : List Note) (ws : List Way) (w : Way) → IsSeen m t notes (IsFrom ws (length ws)) w → IsSeen m t notes (λ v. ⊥) w
none_from m t notes ws w (inl covered) = inl covered
none_from m t notes ws w (inr (inl noted)) = inr (inl noted)
none_from m t notes ws w (inr (inr left)) = absurd (omega (arith, left.1, place_less ws left.0 w left.2))

-- the note x is taken
module _ (m : Graph) (t : Known) (notes notes' : List Note) (x : Note) (taken : IsPermutation notes (x ∷ notes')) where
  still : (w : Way) (h : ℕ) → Contains (inputs m w) h → Contains notes (note t h) → (note t h ≡ x) ⊎ IsNoted m t notes' w
  still w h c n = elim (contains_cases x notes' (note t h) (Contains-permutation notes (x ∷ notes') (note t h) taken n)) [
    | inl e ↦ inl e
    | inr d ↦ inr (h, c, d)
  ]

  pub seen_past : (x ≡ note t x.goal → ⊥) → (w : Way) → IsSeen m t notes (λ v. ⊥) w → IsSeen m t notes' (λ v. ⊥) w
  seen_past past w (inl covered) = inl covered
  seen_past past w (inr (inr left)) = absurd left
  seen_past past w (inr (inl noted)) = elim (still w noted.0 noted.1 noted.2) [
    | inl e ↦ absurd (past (sym e ∙ ap (note t) (ap (λ (k : Note). k.goal) e)))
    | inr n ↦ inr (inl n)
  ]

  -- the alternatives that the goal is an input of are looked at next
  pub seen_taken : (ws : List Way) (uses : List (List Way)) → IsUses m ws (length ws) uses → (w : Way) → (t.bound w.goal ≡ 0) ⊎ Contains ws w
      → IsSeen m t notes (λ v. ⊥) w → IsSeen m t notes' (IsFrom (uses_at uses x.goal) 0) w
  seen_taken ws uses is w listed (inl covered) = inl covered
  seen_taken ws uses is w listed (inr (inr left)) = absurd left
  seen_taken ws uses is w (inl z) (inr (inl noted)) = inl (omega (arith, z))
  seen_taken ws uses is w (inr listed) (inr (inl noted)) = elim (still w noted.0 noted.1 noted.2) [
    | inl e ↦ inr (inr (use_of (ap (λ (k : Note). k.goal) e)))
    | inr n ↦ inr (inl n)
  ] where
    use_of : noted.0 ≡ x.goal → IsFrom (uses_at uses x.goal) 0 w
    use_of e =
        let (j, at) = contains_get ws w listed in
        let used = is.all j w (place_less ws j w at) at x.goal (subst (Contains (inputs m w)) e noted.1) in
        let (i, found) = contains_get (uses_at uses x.goal) w used in
        (i, omega arith, found)

total_cons : (e : Entry) (es : List Entry) → total (e ∷ es) ≡ e.bound + total es
total_cons e es = sum_by-cons (λ (x : Entry). x.bound) e es

-- a fall lowers the total
pub total_falls : (es : List Entry) (g v : ℕ) (c : Option ℕ) → v < bound_in (slice_get es g) → total (slice_set es g (record { bound = v; choice = c })) < total es
total_falls [] g v c l = absurd (omega (arith, l))
total_falls (e ∷ es) zero v c l = omega (arith, l, total_cons (record { bound = v; choice = c }) es, total_cons e es)
total_falls (e ∷ es) (suc g) v c l = omega (arith, total_falls es g v c l, total_cons e (slice_set es g (record { bound = v; choice = c })), total_cons e es)

pub there_of : (es : List Entry) (g v : ℕ) → v < bound_in (slice_get es g) → g < length es
there_of [] g v l = absurd (omega (arith, l))
there_of (e ∷ es) zero v l = omega arith
there_of (e ∷ es) (suc g) v l = omega (arith, there_of es g v l)
