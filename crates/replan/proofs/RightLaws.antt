-- A table that was carried is right for the new moves.
use Rattle.std.proofs.Common.{◌≡◌, ℕ, zero, suc, ◌≤◌, ◌<◌, ◌⊎◌, ◌||◌, Bool, true, false, List, [], ◌∷◌, length, map, Option, Some, None, IsSome, nat_lt, refl, ap, sym, ◌∙◌, subst, arith, inl, inr}
use Rattle.std.specs.List.{AllZip, AllByRecursion}
use Rattle.pr_value.specs.Capped.{cap}
use Rattle.best_plan.specs.Moves.{Alternative, Graph, IsAlternative, IsUnfolded, Reaches, AreChoices, AreMoves}
use Rattle.best_plan.specs.Tables.{Known, AllHold, past_cap, at_bounds, Solves, IsRight}
use Rattle.best_plan.proofs.BoundLaws.{either, at_past, at_cost, at_low, within_each, in_cap}
use Rattle.best_plan.proofs.RightLaws.{held_is_reached}
use Rattle.replan.specs.Alike.{AreAlike}
use Rattle.replan.specs.Carried.{Form, KeptAs, Matches, Carries}

apart : (k : ℕ) → Some k ≡ None → ⊥
apart k e = cc

map_long : (f : ℕ → ℕ) (xs : List ℕ) → length (map f xs) ≡ length xs
map_long f [] = refl
map_long f (x ∷ xs) = ap suc (map_long f xs)

-- the old moves, with a table that is right for them, and the new ones
module _ (old new : Graph) (laws : AreChoices new) (rank rank' : ℕ → ℕ) (reaches reaches' : Reaches) (moves : AreMoves old rank reaches) (moves' : AreMoves new rank' reaches')
    (form : Form) (alike : (g k h j : ℕ) → IsAlternative new g k → IsAlternative old h j → form g k h j ≡ true → AreAlike (new.alternative g k) (old.alternative h j))
    (places : List (Option ℕ)) (t t' : Known) (right : IsRight old reaches t) (kept : ℕ → Bool) (carries : Carries old new form places t t' kept) where
  bounds_are : (gs hs : List ℕ) → AllZip (KeptAs kept places) gs hs → map t'.bound gs ≡ map t.bound hs
  bounds_are [] [] zip = refl
  bounds_are [] (h ∷ hs) zip = absurd zip
  bounds_are (g ∷ gs) [] zip = absurd zip
  bounds_are (g ∷ gs) (h ∷ hs) zip = ap (λ b. b ∷ map t'.bound gs) (carries.bound g h zip.0) ∙ ap (λ bs. t.bound h ∷ bs) (bounds_are gs hs zip.1)

  past_is : (gs hs : List ℕ) → AllZip (KeptAs kept places) gs hs → past_cap t' gs ≡ past_cap t hs
  past_is [] [] zip = refl
  past_is [] (h ∷ hs) zip = absurd zip
  past_is (g ∷ gs) [] zip = absurd zip
  past_is (g ∷ gs) (h ∷ hs) zip = ap (λ b. nat_lt cap b || past_cap t' gs) (carries.bound g h zip.0) ∙ ap (λ p. nat_lt cap (t.bound h) || p) (past_is gs hs zip.1)

  hold_is : (gs hs : List ℕ) → AllZip (KeptAs kept places) gs hs → AllHold t hs → AllHold t' gs
  hold_is [] [] zip held = tt
  hold_is [] (h ∷ hs) zip held = tt
  hold_is (g ∷ gs) [] zip held = absurd zip
  hold_is (g ∷ gs) (h ∷ hs) zip held = (subst (λ o. IsSome o) (sym (carries.choice g h zip.0)) held.0, hold_is gs hs zip.1 held.1)

  hold_capped : (hs : List ℕ) → AllHold t hs → AllByRecursion (λ h. t.bound h ≤ cap) hs
  hold_capped [] held = tt
  hold_capped (h ∷ hs) held = (moves.capped h (t.bound h) (held_is_reached old reaches t right rank moves h held.0), hold_capped hs held.1)

  module _ (g h : ℕ) (is : Matches old new form places kept g h) (k : ℕ) (l : k < new.count g) where
    abbrev a : Alternative
    a = new.alternative g k

    abbrev b : Alternative
    b = old.alternative h k

    was : IsAlternative old h k
    was = (is.there.0, is.there.1, omega (arith, l, is.count))

    same : AreAlike a b
    same = alike g k h k (is.unfolded.0, is.unfolded.1, l) was (is.forms k l)

    costs_same : AllByRecursion (λ i. t.bound i ≤ cap) b.inputs → a.cost (map t'.bound a.inputs) ≡ b.cost (map t.bound b.inputs)
    costs_same low = same.cost (map t'.bound a.inputs) (map_long t'.bound a.inputs)
        (subst (λ cs. AllByRecursion (λ c. c ≤ cap) cs) (sym (bounds_are a.inputs b.inputs (is.inputs k l))) (in_cap t b.inputs low)) ∙ ap b.cost (bounds_are a.inputs b.inputs (is.inputs k l))

    at_same : at_bounds t' a ≡ at_bounds t b
    at_same = by_cases (either (past_cap t b.inputs)) where
      by_cases : (past_cap t b.inputs ≡ true) ⊎ (past_cap t b.inputs ≡ false) → at_bounds t' a ≡ at_bounds t b
      by_cases (inl p) = at_past t' a (past_is a.inputs b.inputs (is.inputs k l) ∙ p) ∙ sym (at_past t b p)
      by_cases (inr p) = at_cost t' a (past_is a.inputs b.inputs (is.inputs k l) ∙ p) ∙ (costs_same (within_each t b.inputs p) ∙ sym (at_cost t b p))

    solves_same : Solves old t h k (t.bound h) → Solves new t' g k (t.bound h)
    solves_same s = (l, hold_is a.inputs b.inputs (is.inputs k l) s.1, s.2 ∙ sym (costs_same (hold_capped b.inputs s.1)))

  kept_as : (g h : ℕ) → kept g ≡ true → Matches old new form places kept g h → KeptAs kept places g h
  kept_as g h e is = (e, is.at)

  covered' : (g k : ℕ) → IsAlternative new g k → t'.bound g ≤ at_bounds t' (new.alternative g k)
  covered' g k is = by_kept (either (kept g)) where
    by_kept : (kept g ≡ true) ⊎ (kept g ≡ false) → t'.bound g ≤ at_bounds t' (new.alternative g k)
    by_kept (inl e) = (let (h, matches) = (carries.exact g).0 e in
        omega (arith, carries.bound g h (kept_as g h e matches), right.covered h k (was g h matches k is.2), at_same g h matches k is.2))
    by_kept (inr e) = omega (arith, (carries.others g e).0)

  abbrev Below : ℕ → Reaches
  Below g i c = reaches' i c × (rank' i < rank' g)

  zip_below : (g : ℕ) (is cs : List ℕ) → AllByRecursion (λ i. rank' i < rank' g) is → AllZip reaches' is cs → AllZip (Below g) is cs
  zip_below g [] [] low zip = tt
  zip_below g [] (c ∷ cs) low zip = zip
  zip_below g (i ∷ is) [] low zip = zip
  zip_below g (i ∷ is) (c ∷ cs) low zip = ((zip.0, low.0), zip_below g is cs low.1 zip.1)

  low_below : (n g c : ℕ) → rank' g < n → reaches' g c → t'.bound g ≤ c
  low_below zero g c l r = absurd (omega (arith, l))
  low_below (suc n) g c l r = by_kept (either (kept g)) (λ i d below. low_below n i d (omega (arith, below.1, l)) below.0) where
    by_kept : (kept g ≡ true) ⊎ (kept g ≡ false) → ((i d : ℕ) → Below g i d → t'.bound i ≤ d) → t'.bound g ≤ c
    by_kept (inl e) low = (let (h, matches) = (carries.exact g).0 e in
        let (k, few, gives) = (moves'.reached g c matches.unfolded).0 r in
        let is : IsAlternative new g k = (matches.unfolded.0, matches.unfolded.1, few) in
        let zip = zip_below g (new.alternative g k).inputs gives.0 (moves'.ranked g k is) gives.1 in
        omega (arith, covered' g k is, at_low new laws g k is (Below g) t' c low (λ i d below. moves'.capped i d below.0) (gives.0, zip, gives.2)))
    by_kept (inr e) low = omega (arith, (carries.others g e).0)

  fresh' : (g : ℕ) → (IsUnfolded new g → ⊥) → (t'.bound g ≡ 0) × (t'.choice g ≡ None)
  fresh' g n = by_kept (either (kept g)) where
    by_kept : (kept g ≡ true) ⊎ (kept g ≡ false) → (t'.bound g ≡ 0) × (t'.choice g ≡ None)
    by_kept (inl e) = (let (h, matches) = (carries.exact g).0 e in absurd (n matches.unfolded))
    by_kept (inr e) = carries.others g e

  solved' : (g k : ℕ) → t'.choice g ≡ Some k → Solves new t' g k (t'.bound g)
  solved' g k e = by_kept (either (kept g)) where
    by_kept : (kept g ≡ true) ⊎ (kept g ≡ false) → Solves new t' g k (t'.bound g)
    by_kept (inl f) = (let (h, matches) = (carries.exact g).0 f in
        let s = right.solved h k (sym (carries.choice g h (kept_as g h f matches)) ∙ e) in
        subst (Solves new t' g k) (sym (carries.bound g h (kept_as g h f matches))) (solves_same g h matches k (omega (arith, s.0, matches.count)) s))
    by_kept (inr f) = absurd (apart k (sym e ∙ (carries.others g f).1))

  pub carried_right : IsRight new reaches' t'
  carried_right = record { low = λ g c r. low_below (suc (rank' g)) g c (omega arith) r; fresh = fresh'; covered = covered'; solved = solved' }
