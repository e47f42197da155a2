-- Lists of entries: what a table of them says, and that their bounds are at most one more than the cap.
use Rattle.std.proofs.Common.{◌≡◌, ℕ, zero, suc, ◌+◌, ◌-◌, ◌≤◌, List, [], ◌∷◌, ◌++◌, ◌<◌, length, get_or, take, length-append, refl, arith, ap, sym, ◌∙◌, subst}
use Rattle.std.specs.Prelude.{max, replicate, slice_get, slice_set, Result, Ok, Err, OnOk, OnErr}
use Rattle.std.specs.List.{AllByRecursion}
use Rattle.std.proofs.lemmas.List.{length-replicate}
use Rattle.pr_value.specs.Capped.{cap}
use Rattle.best_plan.specs.declared.table.Entry.{Entry}
use Rattle.best_plan.specs.Moves.{Graph, Reaches, AreChoices}
use Rattle.best_plan.specs.Tables.{Known, known, bound_in, choice_in, empty_entry, with_room, IsRight, IsKept, Rises, Solves}
use Rattle.best_plan.proofs.BoundLaws.{at_rises}
use Rattle.best_plan.proofs.RightLaws.{solves_rises}

abbrev pub AreCapped : List Entry → Type 0
AreCapped es = AllByRecursion (λ e. e.bound ≤ cap + 1) es

pub set_capped : (es : List Entry) (g : ℕ) (e : Entry) → AreCapped es → e.bound ≤ cap + 1 → AreCapped (slice_set es g e)
set_capped [] g e h k = tt
set_capped (x ∷ es) zero e h k = (k, h.1)
set_capped (x ∷ es) (suc g) e h k = (h.0, set_capped es g e h.1 k)

pub room_capped : (es : List Entry) (n : ℕ) → AreCapped es → AreCapped (es ++ replicate n empty_entry)
room_capped [] zero h = tt
room_capped [] (suc n) h = (omega arith, room_capped [] n h)
room_capped (e ∷ es) n h = (h.0, room_capped es n h.1)

pub none_past : (es : List Entry) (g : ℕ) → length es ≤ g → bound_in (slice_get es g) ≡ 0
none_past [] g h = refl
none_past (e ∷ es) zero h = absurd (omega (arith, h))
none_past (e ∷ es) (suc g) h = none_past es g (omega (arith, h))

pub read_capped : (es : List Entry) (g : ℕ) (e : Entry) → g < length es → e ≡ get_or es g e → AreCapped es → e.bound ≤ cap + 1
read_capped [] g e h is all = absurd (omega (arith, h))
read_capped (x ∷ es) zero e h is all = omega (arith, ap (λ (w : Entry). w.bound) is, all.0)
read_capped (x ∷ es) (suc g) e h is all = read_capped es g e (omega (arith, h)) is all.1

take_all : (es : List Entry) (n : ℕ) → length es ≤ n → take n es ≡ es
take_all [] zero h = refl
take_all [] (suc n) h = refl
take_all (e ∷ es) zero h = absurd (omega (arith, h))
take_all (e ∷ es) (suc n) h = ap (λ l. e ∷ l) (take_all es n (omega (arith, h)))

pub resized_is : (es new : List Entry) (n goals : ℕ) → n ≡ max (length es) goals → new ≡ take n es ++ replicate (n - length es) empty_entry → new ≡ with_room es goals
resized_is es new n goals most is =
    let all : take n es ≡ es = take_all es n (omega (arith, most)) in
    let more : n - length es ≡ goals - length es = omega (arith, most) in
    is ∙ (ap (λ l. l ++ replicate (n - length es) empty_entry) all ∙ ap (λ k. es ++ replicate k empty_entry) more)

pub length_room : (es : List Entry) (n : ℕ) → length (with_room es n) ≡ max (length es) n
length_room es n = omega (arith, length-append es (replicate (n - length es) empty_entry), length-replicate (n - length es) empty_entry)

pub length_set : (es : List Entry) (g : ℕ) (e : Entry) → length (slice_set es g e) ≡ length es
length_set [] g e = refl
length_set (x ∷ es) zero e = refl
length_set (x ∷ es) (suc g) e = ap suc (length_set es g e)

bound_room : (es : List Entry) (n g : ℕ) → bound_in (slice_get (es ++ replicate n empty_entry) g) ≡ bound_in (slice_get es g)
bound_room [] zero g = refl
bound_room [] (suc n) zero = refl
bound_room [] (suc n) (suc g) = bound_room [] n g
bound_room (e ∷ es) n zero = refl
bound_room (e ∷ es) n (suc g) = bound_room es n g

choice_room : (es : List Entry) (n g : ℕ) → choice_in (slice_get (es ++ replicate n empty_entry) g) ≡ choice_in (slice_get es g)
choice_room [] zero g = refl
choice_room [] (suc n) zero = refl
choice_room [] (suc n) (suc g) = choice_room [] n g
choice_room (e ∷ es) n zero = refl
choice_room (e ∷ es) n (suc g) = choice_room es n g

-- room for more goals says nothing new
pub room_kept : (es : List Entry) (n g : ℕ) → IsKept (known es) (known (with_room es n)) g
room_kept es n g = (bound_room es (n - length es) g, choice_room es (n - length es) g)

pub kept_rises : (t t' : Known) → ((g : ℕ) → IsKept t t' g) → Rises t t'
kept_rises t t' kept = record { bound = λ g. omega (arith, (kept g).0); choice = λ g h. (kept g).1; cost = λ g h. (kept g).0 }

pub kept_right : (m : Graph) (laws : AreChoices m) (reaches : Reaches) (t t' : Known) → ((g : ℕ) → IsKept t t' g) → IsRight m reaches t → IsRight m reaches t'
kept_right m laws reaches t t' kept right = record {
  low = λ g d r. omega (arith, (kept g).0, right.low g d r);
  fresh = λ g n. ((kept g).0 ∙ (right.fresh g n).0, (kept g).1 ∙ (right.fresh g n).1);
  covered = λ g k is. omega (arith, (kept g).0, right.covered g k is, at_rises m laws g k is t t' (λ i. omega (arith, (kept i).0)));
  solved = λ g k e. subst (Solves m t' g k) (sym (kept g).0) (solves_rises m t t' g k (t.bound g) (kept_rises t t' kept) (right.solved g k (sym (kept g).1 ∙ e)));
}

-- a table that was reserved is right where it was
pub room_right : (m : Graph) (laws : AreChoices m) (reaches : Reaches) (es : List Entry) (n : ℕ) → IsRight m reaches (known es) → IsRight m reaches (known (with_room es n))
room_right m laws reaches es n right = kept_right m laws reaches (known es) (known (with_room es n)) (room_kept es n) right

-- also where there was no memory
pub reserved_right : {T E : Type 0} (m : Graph) (laws : AreChoices m) (reaches : Reaches) (r : Result T E) (es es' : List Entry) (n : ℕ) → OnOk r (es' ≡ with_room es n) → OnErr r (es' ≡ es)
    → IsRight m reaches (known es) → IsRight m reaches (known es')
reserved_right m laws reaches (Ok x) es es' n ok err right = subst (λ (ds : List Entry). IsRight m reaches (known ds)) (sym ok) (room_right m laws reaches es n right)
reserved_right m laws reaches (Err e) es es' n ok err right = subst (λ (ds : List Entry). IsRight m reaches (known ds)) (sym err) right

-- a new table is right for all moves
pub new_right : (m : Graph) (reaches : Reaches) → IsRight m reaches (known [])
new_right m reaches = record {
  low = λ g c r. omega arith;
  fresh = λ g n. (refl, refl);
  covered = λ g k is. omega arith;
  solved = λ g k e. cc;
}
