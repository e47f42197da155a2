-- What an alternative costs with its inputs at their bounds.
use Rattle.std.proofs.Common.{◌≡◌, ℕ, zero, suc, ◌+◌, ◌≤◌, ◌<◌, Bool, true, false, List, [], ◌∷◌, length, map, take, Some, refl, ap, sym, ◌∙◌, subst, arith, inl, inr}
use Rattle.std.specs.Prelude.{◌⊎◌, ◌||◌, slice_get, slice_set, nat_lt, if◌then◌else◌}
use Rattle.std.specs.List.{AllZip, AllByRecursion}
use Rattle.std.proofs.lemmas.Bool.Decides.{Decides-ltb}
use Rattle.pr_value.specs.Capped.{cap}
use Rattle.best_plan.specs.Moves.{Alternative, Graph, IsAlternative, Reaches, Gives, AllLe, AreChoices}
use Rattle.best_plan.specs.Tables.{Known, past_cap, at_bounds}

pub either : (b : Bool) → (b ≡ true) ⊎ (b ≡ false)
either true = inl refl
either false = inr refl

le_or_lt : (a b : ℕ) → (a ≤ b) ⊎ (b < a)
le_or_lt zero b = inl (omega arith)
le_or_lt (suc a) zero = inr (omega arith)
le_or_lt (suc a) (suc b) = elim (le_or_lt a b) [ inl l ↦ inl (omega arith) | inr l ↦ inr (omega arith) ]

pub lt_true : (m n : ℕ) → nat_lt m n ≡ true → m < n
lt_true m n e = (Decides-ltb m n).0 e

pub is_lt : (m n : ℕ) → m < n → nat_lt m n ≡ true
is_lt m n h = (Decides-ltb m n).1 h

pub lt_false : (m n : ℕ) → nat_lt m n ≡ false → n ≤ m
lt_false m n e = by_order (le_or_lt n m) where
  differ : true ≡ false → ⊥
  differ d = cc

  by_order : (n ≤ m) ⊎ (m < n) → n ≤ m
  by_order (inl l) = l
  by_order (inr l) = absurd (differ (sym (is_lt m n l) ∙ e))

pub not_lt : (m n : ℕ) → n ≤ m → nat_lt m n ≡ false
not_lt m n h = by_cases (either (nat_lt m n)) where
  by_cases : (nat_lt m n ≡ true) ⊎ (nat_lt m n ≡ false) → nat_lt m n ≡ false
  by_cases (inl e) = absurd (omega (arith, lt_true m n e))
  by_cases (inr e) = e

or_false : (a b : Bool) → (a || b) ≡ false → (a ≡ false) × (b ≡ false)
or_false true b e = cc
or_false false b e = (refl, e)

both_false : (a b : Bool) → a ≡ false → b ≡ false → (a || b) ≡ false
both_false true b d e = cc
both_false false b d e = e

pub at_past : (t : Known) (a : Alternative) → past_cap t a.inputs ≡ true → at_bounds t a ≡ cap + 1
at_past t a e = ap (λ b. if b then cap + 1 else a.cost (map t.bound a.inputs)) e

pub at_cost : (t : Known) (a : Alternative) → past_cap t a.inputs ≡ false → at_bounds t a ≡ a.cost (map t.bound a.inputs)
at_cost t a e = ap (λ b. if b then cap + 1 else a.cost (map t.bound a.inputs)) e

pub within_each : (t : Known) (gs : List ℕ) → past_cap t gs ≡ false → AllByRecursion (λ g. t.bound g ≤ cap) gs
within_each t [] e = tt
within_each t (g ∷ gs) e = let o = or_false (nat_lt cap (t.bound g)) (past_cap t gs) e in (lt_false cap (t.bound g) o.0, within_each t gs o.1)

pub each_within : (t : Known) (gs : List ℕ) → AllByRecursion (λ g. t.bound g ≤ cap) gs → past_cap t gs ≡ false
each_within t [] h = refl
each_within t (g ∷ gs) h = both_false (nat_lt cap (t.bound g)) (past_cap t gs) (not_lt cap (t.bound g) h.0) (each_within t gs h.1)

pub in_cap : (t : Known) (gs : List ℕ) → AllByRecursion (λ g. t.bound g ≤ cap) gs → AllByRecursion (λ c. c ≤ cap) (map t.bound gs)
in_cap t [] h = tt
in_cap t (g ∷ gs) h = (h.0, in_cap t gs h.1)

pub all_at : (P : ℕ → Type 0) (gs : List ℕ) (i x : ℕ) → AllByRecursion P gs → slice_get gs i ≡ Some x → P x
all_at P [] i x h e = cc
all_at P (g ∷ gs) zero x h e = let same : g ≡ x = cc in subst P same h.0
all_at P (g ∷ gs) (suc i) x h e = all_at P gs i x h.1 e

lower : (t t' : Known) (gs : List ℕ) → ((g : ℕ) → t.bound g ≤ t'.bound g) → AllByRecursion (λ g. t'.bound g ≤ cap) gs → AllByRecursion (λ g. t.bound g ≤ cap) gs
lower t t' [] r h = tt
lower t t' (g ∷ gs) r h = (omega (arith, r g, h.0), lower t t' gs r h.1)

map_le : (t t' : Known) (gs : List ℕ) → ((g : ℕ) → t.bound g ≤ t'.bound g) → AllLe (map t.bound gs) (map t'.bound gs)
map_le t t' [] r = tt
map_le t t' (g ∷ gs) r = (r g, map_le t t' gs r)

set_le : (t t' : Known) (gs : List ℕ) (i x y : ℕ) → ((g : ℕ) → t.bound g ≤ t'.bound g) → slice_get gs i ≡ Some x → y ≤ t'.bound x → AllLe (slice_set (map t.bound gs) i y) (map t'.bound gs)
set_le t t' [] i x y r e h = cc
set_le t t' (g ∷ gs) zero x y r e h = let same : g ≡ x = cc in (subst (λ z. y ≤ t'.bound z) (sym same) h, map_le t t' gs r)
set_le t t' (g ∷ gs) (suc i) x y r e h = (r g, set_le t t' gs i x y r e h)

module _ (reaches : Reaches) (t : Known) (low : (g c : ℕ) → reaches g c → t.bound g ≤ c) where
  zip_le : (gs cs : List ℕ) → AllZip reaches gs cs → AllLe (map t.bound gs) cs
  zip_le [] [] h = tt
  zip_le [] (c ∷ cs) h = h
  zip_le (g ∷ gs) [] h = h
  zip_le (g ∷ gs) (c ∷ cs) h = (low g c h.0, zip_le gs cs h.1)

  zip_within : (gs cs : List ℕ) → ((g c : ℕ) → reaches g c → c ≤ cap) → AllZip reaches gs cs → AllByRecursion (λ g. t.bound g ≤ cap) gs
  zip_within [] [] capped h = tt
  zip_within [] (c ∷ cs) capped h = tt
  zip_within (g ∷ gs) [] capped h = absurd h
  zip_within (g ∷ gs) (c ∷ cs) capped h = (omega (arith, low g c h.0, capped g c h.0), zip_within gs cs capped h.1)

module _ (m : Graph) (laws : AreChoices m) (g k : ℕ) (is : IsAlternative m g k) where
  pub at_most : (t : Known) → at_bounds t (m.alternative g k) ≤ cap + 1
  at_most t = by_cases (either (past_cap t (m.alternative g k).inputs)) where
    by_cases : (past_cap t (m.alternative g k).inputs ≡ true) ⊎ (past_cap t (m.alternative g k).inputs ≡ false) → at_bounds t (m.alternative g k) ≤ cap + 1
    by_cases (inl e) = omega (arith, at_past t (m.alternative g k) e)
    by_cases (inr e) = omega (arith, at_cost t (m.alternative g k) e, laws.bounded g k (map t.bound (m.alternative g k).inputs) is (in_cap t (m.alternative g k).inputs (within_each t (m.alternative g k).inputs e)))

  -- it rises as bounds do
  pub at_rises : (t t' : Known) → ((i : ℕ) → t.bound i ≤ t'.bound i) → at_bounds t (m.alternative g k) ≤ at_bounds t' (m.alternative g k)
  at_rises t t' r = by_cases (either (past_cap t' (m.alternative g k).inputs)) where
    by_cases : (past_cap t' (m.alternative g k).inputs ≡ true) ⊎ (past_cap t' (m.alternative g k).inputs ≡ false) → at_bounds t (m.alternative g k) ≤ at_bounds t' (m.alternative g k)
    by_cases (inl e) = omega (arith, at_past t' (m.alternative g k) e, at_most t)
    by_cases (inr e) =
        let w = each_within t (m.alternative g k).inputs (lower t t' (m.alternative g k).inputs r (within_each t' (m.alternative g k).inputs e)) in
        omega (arith, at_cost t' (m.alternative g k) e, at_cost t (m.alternative g k) w, laws.rising g k (map t.bound (m.alternative g k).inputs) (map t'.bound (m.alternative g k).inputs) is (map_le t t' (m.alternative g k).inputs r))

  -- what it gives is no less
  pub at_low : (reaches : Reaches) (t : Known) (c : ℕ) → ((i d : ℕ) → reaches i d → t.bound i ≤ d) → ((i d : ℕ) → reaches i d → d ≤ cap) → Gives reaches (m.alternative g k) c → at_bounds t (m.alternative g k) ≤ c
  at_low reaches t c low capped gives =
      let w = each_within t (m.alternative g k).inputs (zip_within reaches t low (m.alternative g k).inputs gives.0 capped gives.1) in
      omega (arith, at_cost t (m.alternative g k) w, gives.2, laws.rising g k (map t.bound (m.alternative g k).inputs) gives.0 is (zip_le reaches t low (m.alternative g k).inputs gives.0 gives.1))

  -- it costs at least the limit where an input's bound is at least the input's limit
  pub at_cut : (t t' : Known) (i x most limit : ℕ) → ((j : ℕ) → t.bound j ≤ t'.bound j) → slice_get (m.alternative g k).inputs i ≡ Some x → most ≤ t'.bound x → limit ≤ cap + 1
      → (most ≤ cap → limit ≤ (m.alternative g k).cost (slice_set (map t.bound (m.alternative g k).inputs) i most)) → limit ≤ at_bounds t' (m.alternative g k)
  at_cut t t' i x most limit r e over high at = by_cases (either (past_cap t' (m.alternative g k).inputs)) where
    by_cases : (past_cap t' (m.alternative g k).inputs ≡ true) ⊎ (past_cap t' (m.alternative g k).inputs ≡ false) → limit ≤ at_bounds t' (m.alternative g k)
    by_cases (inl p) = omega (arith, at_past t' (m.alternative g k) p)
    by_cases (inr p) =
        let here : t'.bound x ≤ cap = all_at (λ j. t'.bound j ≤ cap) (m.alternative g k).inputs i x (within_each t' (m.alternative g k).inputs p) e in
        omega (arith, at_cost t' (m.alternative g k) p, at (omega arith), laws.rising g k (slice_set (map t.bound (m.alternative g k).inputs) i most) (map t'.bound (m.alternative g k).inputs) is (set_le t t' (m.alternative g k).inputs i x most r e over))

  -- below the cap no input is past it
  pub within_of : (t : Known) (limit : ℕ) → limit ≤ cap + 1 → at_bounds t (m.alternative g k) < limit → past_cap t (m.alternative g k).inputs ≡ false
  within_of t limit high h = by_cases (either (past_cap t (m.alternative g k).inputs)) where
    by_cases : (past_cap t (m.alternative g k).inputs ≡ true) ⊎ (past_cap t (m.alternative g k).inputs ≡ false) → past_cap t (m.alternative g k).inputs ≡ false
    by_cases (inl p) = absurd (omega (arith, at_past t (m.alternative g k) p))
    by_cases (inr p) = p

past_first : (b d : Bool) → b ≡ true → (b || d) ≡ true
past_first true d e = refl
past_first false d e = cc

past_later : (b d : Bool) → d ≡ true → (b || d) ≡ true
past_later true d e = refl
past_later false d e = e

pub past_at : (t : Known) (gs : List ℕ) (i x : ℕ) → slice_get gs i ≡ Some x → cap < t.bound x → past_cap t gs ≡ true
past_at t [] i x e h = cc
past_at t (g ∷ gs) zero x e h = let same : g ≡ x = cc in past_first (nat_lt cap (t.bound g)) (past_cap t gs) (is_lt cap (t.bound g) (subst (λ y. cap < t.bound y) (sym same) h))
past_at t (g ∷ gs) (suc i) x e h = past_later (nat_lt cap (t.bound g)) (past_cap t gs) (past_at t gs i x e h)

pub capped_of : (t : Known) (gs bs : List ℕ) (n : ℕ) → past_cap t gs ≡ false → n ≡ length gs → take (length gs) bs ≡ map t.bound gs → AllByRecursion (λ c. c ≤ cap) (take n bs)
capped_of t gs bs n w e are = subst (λ l. AllByRecursion (λ c. c ≤ cap) l) (sym (ap (λ k. take k bs) e ∙ are)) (in_cap t gs (within_each t gs w))

pub take_set : (bs : List ℕ) (n i x : ℕ) → take n (slice_set bs i x) ≡ slice_set (take n bs) i x
take_set [] zero i x = refl
take_set [] (suc n) i x = refl
take_set (b ∷ bs) zero i x = refl
take_set (b ∷ bs) (suc n) zero x = refl
take_set (b ∷ bs) (suc n) (suc i) x = ap (λ l. b ∷ l) (take_set bs n i x)

-- with one bound changed
pub cost_with : (f : List ℕ → ℕ) (t : Known) (gs bs : List ℕ) (n i x : ℕ) → n ≡ length gs → take (length gs) bs ≡ map t.bound gs → f (take n (slice_set bs i x)) ≡ f (slice_set (map t.bound gs) i x)
cost_with f t gs bs n i x e are = ap f (take_set bs n i x ∙ ap (λ l. slice_set l i x) (ap (λ k. take k bs) e ∙ are))

same_le : (cs : List ℕ) → AllLe cs cs
same_le [] = tt
same_le (c ∷ cs) = (omega arith, same_le cs)

one_set_le : (cs : List ℕ) (i x y : ℕ) → x ≤ y → AllLe (slice_set cs i x) (slice_set cs i y)
one_set_le [] i x y h = tt
one_set_le (c ∷ cs) zero x y h = (h, same_le cs)
one_set_le (c ∷ cs) (suc i) x y h = (omega arith, one_set_le cs i x y h)

pub set_rises : (m : Graph) (laws : AreChoices m) (g k : ℕ) (is : IsAlternative m g k) (bs : List ℕ) (n i x y : ℕ) → x ≤ y → (m.alternative g k).cost (take n (slice_set bs i x)) ≤ (m.alternative g k).cost (take n (slice_set bs i y))
set_rises m laws g k is bs n i x y h = omega (
  arith,
  ap (m.alternative g k).cost (take_set bs n i x),
  ap (m.alternative g k).cost (take_set bs n i y),
  laws.rising g k (slice_set (take n bs) i x) (slice_set (take n bs) i y) is (one_set_le (take n bs) i x y h),
)
