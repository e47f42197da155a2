-- Lists of alternatives by their inputs, as they grow.
use Rattle.std.proofs.Common.{◌≡◌, ◌≢◌, ℕ, zero, suc, ◌+◌, ◌≤◌, ◌<◌, ◌⊎◌, List, [], ◌∷◌, ◌++◌, length, Contains, Some, slice_get, slice_set, slice_index_or, refl, ap, sym, ◌∙◌, subst, arith, inl, inr}
use Rattle.std.proofs.lemmas.Bool.{cases_eq}
use Rattle.std.proofs.lemmas.List.Elements.{Contains-append_left, Contains-push, Contains-push_cases}
use Rattle.best_plan.specs.Moves.{Graph, IsAlternative}
use Rattle.loop_plan.specs.Reached.{inputs}
use Rattle.loop_plan.specs.Uses.{uses_at, IsUses}
use Rattle.loop_plan.specs.declared.way.Way.{Way}
use Rattle.loop_plan.proofs.ListLaws.{contains_get, get_contains, get_at, some_is, place_less, none_contained}

-- the lists with one more alternative for the goal
abbrev pub with_use : List (List Way) → ℕ → Way → List (List Way)
with_use us g w = slice_set us g (uses_at us g ++ w ∷ [])

set_same : (us : List (List Way)) (g : ℕ) (ws : List Way) → g < length us → uses_at (slice_set us g ws) g ≡ ws
set_same [] g ws l = absurd (omega (arith, l))
set_same (u ∷ us) zero ws l = refl
set_same (u ∷ us) (suc g) ws l = set_same us g ws (omega (arith, l))

set_other : (us : List (List Way)) (g h : ℕ) (ws : List Way) → h ≢ g → uses_at (slice_set us g ws) h ≡ uses_at us h
set_other [] g h ws d = refl
set_other (u ∷ us) zero zero ws d = absurd (d refl)
set_other (u ∷ us) zero (suc h) ws d = refl
set_other (u ∷ us) (suc g) zero ws d = refl
set_other (u ∷ us) (suc g) (suc h) ws d = set_other us g h ws (λ e. d (ap suc e))

length_set : (us : List (List Way)) (g : ℕ) (ws : List Way) → length (slice_set us g ws) ≡ length us
length_set [] g ws = refl
length_set (u ∷ us) zero ws = refl
length_set (u ∷ us) (suc g) ws = ap suc (length_set us g ws)

pub length_use : (us : List (List Way)) (g : ℕ) (w : Way) → length (with_use us g w) ≡ length us
length_use us g w = length_set us g (uses_at us g ++ w ∷ [])

-- it is listed now
pub has_use : (us : List (List Way)) (g : ℕ) (w : Way) → g < length us → Contains (uses_at (with_use us g w) g) w
has_use us g w l = subst (λ ws. Contains ws w) (sym (set_same us g (uses_at us g ++ w ∷ []) l)) (Contains-push (uses_at us g) w)

-- what was listed stays
pub keeps_use : (us : List (List Way)) (g : ℕ) (w : Way) → g < length us → (h : ℕ) (v : Way) → Contains (uses_at us h) v → Contains (uses_at (with_use us g w) h) v
keeps_use us g w l h v c = by_same (cases_eq h g) where
  by_same : (h ≡ g) ⊎ (h ≡ g → ⊥) → Contains (uses_at (with_use us g w) h) v
  by_same (inl e) = subst (λ i. Contains (uses_at (with_use us g w) i) v) (sym e)
      (subst (λ ws. Contains ws v) (sym (set_same us g (uses_at us g ++ w ∷ []) l)) (Contains-append_left (uses_at us g) (w ∷ []) v (subst (λ i. Contains (uses_at us i) v) e c)))
  by_same (inr d) = subst (λ ws. Contains ws v) (sym (set_other us g h (uses_at us g ++ w ∷ []) d)) c

-- and nothing else was added
only_use : (us : List (List Way)) (g : ℕ) (w : Way) → g < length us → (h : ℕ) (v : Way) → Contains (uses_at (with_use us g w) h) v → Contains (uses_at us h) v ⊎ (w ≡ v)
only_use us g w l h v c = by_same (cases_eq h g) where
  by_same : (h ≡ g) ⊎ (h ≡ g → ⊥) → Contains (uses_at us h) v ⊎ (w ≡ v)
  by_same (inl e) =
      elim (Contains-push_cases (uses_at us g) w v (subst (λ ws. Contains ws v) (set_same us g (uses_at us g ++ w ∷ []) l) (subst (λ i. Contains (uses_at (with_use us g w) i) v) e c))) [
        | inl h ↦ inl (subst (λ i. Contains (uses_at us i) v) (sym e) h)
        | inr s ↦ inr s
      ]
  by_same (inr d) = inl (subst (λ ws. Contains ws v) (set_other us g h (uses_at us g ++ w ∷ []) d) c)

pub uses_with : (m : Graph) (ws : List Way) (n : ℕ) (us : List (List Way)) (g : ℕ) (w : Way) → g < length us → IsAlternative m w.goal w.k → IsUses m ws n us → IsUses m ws n (with_use us g w)
uses_with m ws n us g w l is uses = record {
  all = λ j v i e h c. keeps_use us g w l h v (uses.all j v i e h c);
  only = λ h v c. elim (only_use us g w l h v c) [ inl b ↦ uses.only h v b | inr e ↦ subst (λ (u : Way). IsAlternative m u.goal u.k) e is ];
}

-- one more alternative is listed for all its inputs
pub uses_more : (m : Graph) (ws : List Way) (n : ℕ) (us : List (List Way)) (w : Way) → slice_get ws n ≡ Some w → ((h : ℕ) → Contains (inputs m w) h → Contains (uses_at us h) w) → IsUses m ws n us → IsUses m ws (n + 1) us
uses_more m ws n us w at listed uses = record { all = by_place; only = uses.only } where
  by_place : (j : ℕ) (v : Way) → j < n + 1 → slice_get ws j ≡ Some v → (h : ℕ) → Contains (inputs m v) h → Contains (uses_at us h) v
  by_place j v l e h c = by_same (cases_eq j n) where
    by_same : (j ≡ n) ⊎ (j ≡ n → ⊥) → Contains (uses_at us h) v
    by_same (inl s) = (let same : w ≡ v = some_is w v (sym at ∙ subst (λ i. slice_get ws i ≡ Some v) s e) in
        subst (λ (u : Way). Contains (uses_at us h) u) same (listed h (subst (λ (u : Way). Contains (inputs m u) h) (sym same) c)))
    by_same (inr d) = uses.all j v (omega (arith, l, d)) e h c

-- the inputs so far, and one more
pub inputs_more : (P : ℕ → Type 0) (hs : List ℕ) (i x : ℕ) → slice_get hs i ≡ Some x → P x → ((j h : ℕ) → j < i → slice_get hs j ≡ Some h → P h) → (j h : ℕ) → j < i + 1 → slice_get hs j ≡ Some h → P h
inputs_more P hs i x at p so_far j h l e = by_same (cases_eq j i) where
  by_same : (j ≡ i) ⊎ (j ≡ i → ⊥) → P h
  by_same (inl s) = subst P (some_is x h (sym at ∙ subst (λ k. slice_get hs k ≡ Some h) s e)) p
  by_same (inr d) = so_far j h (omega (arith, l, d)) e

pub inputs_all : (P : ℕ → Type 0) (hs : List ℕ) (n : ℕ) → length hs ≤ n → ((j h : ℕ) → j < n → slice_get hs j ≡ Some h → P h) → (h : ℕ) → Contains hs h → P h
inputs_all P hs n l all h c = let (j, at) = contains_get hs h c in all j h (omega (arith, l, place_less hs j h at)) at

pub no_uses : (m : Graph) (ws : List Way) (us : List (List Way)) → ((h : ℕ) → uses_at us h ≡ []) → IsUses m ws 0 us
no_uses m ws us none = record {
  all = λ j w l e h c. absurd (omega (arith, l));
  only = λ h w c. absurd (none_contained w (subst (λ vs. Contains vs w) (none h) c));
}

-- the alternative at a place
pub alternative_at : (m : Graph) (ws : List Way) → ((w : Way) → Contains ws w → IsAlternative m w.goal w.k) → (i : ℕ) (d : Way) → i < length ws → IsAlternative m (slice_index_or ws i d).goal (slice_index_or ws i d).k
alternative_at m ws all i d l = all (slice_index_or ws i d) (get_contains ws i (slice_index_or ws i d) (get_at ws i d l))

-- the alternative is listed for its input at place j
module _ (m : Graph) (ws : List Way) (n : ℕ) (us us' : List (List Way)) (w : Way) (j x : ℕ) (at : slice_get (inputs m w) j ≡ Some x) (is : IsAlternative m w.goal w.k) (room : x < length us) (new : us' ≡ with_use us x w) where
  pub step_room : length us' ≡ length us
  step_room = ap (λ (vs : List (List Way)). length vs) new ∙ length_use us x w

  pub step_is : IsUses m ws n us → IsUses m ws n us'
  step_is uses = subst (λ (vs : List (List Way)). IsUses m ws n vs) (sym new) (uses_with m ws n us x w room is uses)

  pub step_listed : ((i h : ℕ) → i < j → slice_get (inputs m w) i ≡ Some h → Contains (uses_at us h) w) → (i h : ℕ) → i < j + 1 → slice_get (inputs m w) i ≡ Some h → Contains (uses_at us' h) w
  step_listed so_far = subst (λ (vs : List (List Way)). (i h : ℕ) → i < j + 1 → slice_get (inputs m w) i ≡ Some h → Contains (uses_at vs h) w) (sym new)
      (inputs_more (λ h. Contains (uses_at (with_use us x w) h) w) (inputs m w) j x at (has_use us x w room) (λ i h l e. keeps_use us x w room h w (so_far i h l e)))
