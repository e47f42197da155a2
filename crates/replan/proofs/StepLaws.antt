-- The steps of carrying, from flags that are all false to the last goal.
use Rattle.std.proofs.Common.{◌≡◌, ℕ, ◌+◌, ◌<◌, Bool, true, false, List, [], ◌∷◌, ◌++◌, length, take, drop, Option, Some, None, slice_get, slice_set, slice_index_or, replicate, refl, ap, sym, ◌∙◌, subst, inl, inr}
use Rattle.best_plan.specs.Moves.{Graph, Reaches, AreMoves}
use Rattle.best_plan.specs.Tables.{Known, known, with_room}
use Rattle.best_plan.specs.declared.table.Entry.{Entry}
use Rattle.best_plan.proofs.RightLaws.{put_is}
use Rattle.best_plan.proofs.TableLaws.{length_set, room_kept}
use Rattle.replan.specs.Carried.{Form, Matches, flagged, IsStep}
use Rattle.replan.specs.Ranked.{AreRanked}
use Rattle.replan.specs.declared.ranked.Ranked.{Ranked}
use Rattle.replan.proofs.CarryLaws.{Carrying, carrying_none, carrying_skip, carrying_more, get_at}
use Rattle.replan.proofs.MatchLaws.{flag_set, flag_other, flags_long, no_flags}

-- a step changes no length
pub step_flags : (old new : Graph) (form : Form) (places : List (Option ℕ)) (t : Known) (g : ℕ) (flags flags' : List Bool) (es es' : List Entry) → IsStep old new form places t g flags flags' es es' → length flags' ≡ length flags
step_flags old new form places t g flags flags' es es' (inl s) = ap (λ (fs : List Bool). length fs) s.1
step_flags old new form places t g flags flags' es es' (inr s) = ap (λ (fs : List Bool). length fs) s.2 ∙ flags_long flags g

pub step_entries : (old new : Graph) (form : Form) (places : List (Option ℕ)) (t : Known) (g : ℕ) (flags flags' : List Bool) (es es' : List Entry) → IsStep old new form places t g flags flags' es es' → length es' ≡ length es
step_entries old new form places t g flags flags' es es' (inl s) = ap (λ (ds : List Entry). length ds) s.2
step_entries old new form places t g flags flags' es es' (inr s) = ap (λ (ds : List Entry). length ds) s.3 ∙ length_set es g (record { bound = t.bound s.0; choice = t.choice s.0 })

-- an item that is read by its place
pub at_place : (rs : List Ranked) (i : ℕ) (x : Ranked) → i < length rs → x ≡ slice_index_or rs i x → slice_get rs i ≡ Some x
at_place rs i x l e = get_at rs i x l ∙ ap Some (sym e)

pub goal_there : (goals : ℕ) (rank : ℕ → ℕ) (rs : List Ranked) (i : ℕ) (x : Ranked) → AreRanked goals rank rs → i < length rs → x ≡ slice_index_or rs i x → x.goal < goals
goal_there goals rank rs i x ranked l e = (ranked.only x (i, l, sym e)).0

module _ (old new : Graph) (rank' : ℕ → ℕ) (reaches' : Reaches) (moves' : AreMoves new rank' reaches') (form : Form) (places : List (Option ℕ)) (t : Known) (order : List Ranked) (ranked : AreRanked new.goals rank' order) where
  abbrev Now : ℕ → List Bool → List Entry → Type 0
  Now i flags es = Carrying old new form places t order i (flagged flags) (known es)

  pub carrying_first : (flags : List Bool) (es : List Entry) (n m : ℕ) → flags ≡ replicate n false → es ≡ with_room [] m → Now 0 flags es
  carrying_first flags es n m f e = carrying_none old new rank' reaches' moves' form places t order ranked (flagged flags) (known es)
      (λ g. subst (λ (fs : List Bool). flagged fs g ≡ false) (sym f) (no_flags n g))
      (λ g. subst (λ (ds : List Entry). ((known ds).bound g ≡ 0) × ((known ds).choice g ≡ None)) (sym e) (room_kept [] m g))

  module _ (i : ℕ) (x : Ranked) (at : slice_get order i ≡ Some x) (flags flags' : List Bool) (es es' : List Entry) (carrying : Now i flags es) where
    skip : ((h : ℕ) → Matches old new form places (flagged flags) x.goal h → ⊥) → Now (i + 1) flags es
    skip none = carrying_skip old new rank' reaches' moves' form places t order ranked i x at (flagged flags) (known es) carrying none

    module _ (h : ℕ) (matches : Matches old new form places (flagged flags) x.goal h) (few : x.goal < length flags) (room : x.goal < length es) where
      abbrev entry : Entry
      entry = record { bound = t.bound h; choice = t.choice h }

      more : Now (i + 1) (slice_set flags x.goal true) (slice_set es x.goal entry)
      more = carrying_more old new rank' reaches' moves' form places t order ranked i x at (flagged flags) (known es) carrying h matches
          (flagged (slice_set flags x.goal true)) (flag_set flags x.goal few) (λ g d. flag_other flags x.goal g d) (known (slice_set es x.goal entry)) (put_is es x.goal entry room)

    pub carrying_step : x.goal < length flags → x.goal < length es → IsStep old new form places t x.goal flags flags' es es' → Now (i + 1) flags' es'
    carrying_step few room (inl s) = subst (λ (fs : List Bool). Now (i + 1) fs es') (sym s.1) (subst (λ (ds : List Entry). Now (i + 1) flags ds) (sym s.2) (skip s.0))
    carrying_step few room (inr s) = subst (λ (fs : List Bool). Now (i + 1) fs es') (sym s.2) (subst (λ (ds : List Entry). Now (i + 1) (slice_set flags x.goal true) ds) (sym s.3) (more s.0 s.1 few room))

take_front : (xs ys : List Bool) → take (length xs) (xs ++ ys) ≡ xs
take_front [] ys = refl
take_front (x ∷ xs) ys = ap (λ zs. x ∷ zs) (take_front xs ys)

-- a list of as many flags that is written back
pub written_back : (n : ℕ) (xs ys : List Bool) → length xs ≡ n → take n (xs ++ drop (length xs) ys) ≡ xs
written_back n xs ys e = ap (λ k. take k (xs ++ drop (length xs) ys)) (sym e) ∙ take_front xs (drop (length xs) ys)
