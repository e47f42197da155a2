-- The steps of a search.
use Rattle.std.proofs.Common.{◌≡◌, ℕ, ◌≤◌, ◌<◌, List, length, Bool, true, false, map, Option, Some, None, refl, ap, sym, ◌∙◌, subst, arith, inl, inr}
use Rattle.std.specs.Prelude.{is_some, IfSome, Result, Ok, Err, IfOk, slice_set}
use Rattle.best_plan.specs.declared.table.Entry.{Entry}
use Rattle.best_plan.specs.declared.costs.Best.{Best}
use Rattle.best_plan.specs.declared.searching.Found.{Found}
use Rattle.best_plan.specs.declared.searching.Found.TheVariants.{Below, NotBelow}
use Rattle.best_plan.specs.Moves.{Alternative, Graph, IsUnfolded, Reaches, AreChoices, AreMoves, Extends, KeepsAnswers}
use Rattle.best_plan.specs.Tables.{Known, AllHold, at_bounds, Solves, IsRight, Rises, KeepsOthers, KeepsUpper, Leaves, known}
use Rattle.best_plan.specs.Answers.{Answers, AllCost, Stands, Tells, IsNext, IsNotBelowOrMemory}
use Rattle.best_plan.proofs.BoundLaws.{at_rises, at_low}
use Rattle.best_plan.proofs.RightLaws.{IsPut, put_is, put_right, put_rises, stands_rises, answers_best, answers_same, solves_reaches, rises_on}
use Rattle.best_plan.proofs.LeastLaws.{count_below, count_lt}
use Rattle.best_plan.proofs.TableLaws.{length_set}

pub none_of : (o : Option ℕ) → is_some o ≡ false → o ≡ None
none_of None e = refl
none_of (Some k) e = cc

pub if_ok : {T E : Type 0} (r : Result T E) (P Q : T → Type 0) → ((x : T) → P x → Q x) → IfOk r P → IfOk r Q
if_ok (Ok x) P Q f h = f x h
if_ok (Err e) P Q f h = tt

pub tells_true : (P : Type 0) (t : Known) (a : Alternative) (limit : ℕ) (b : Bool) → b ≡ true → Tells P t a limit b → P
tells_true P t a limit true e h = h
tells_true P t a limit false e h = cc

pub low_of : (reaches : Reaches) (t : Known) (g limit : ℕ) (f : Found) → f ≡ NotBelow → Answers reaches t g limit f → limit ≤ t.bound g
low_of reaches t g limit (Below c) e h = cc
low_of reaches t g limit NotBelow e h = h.1

pub all_cost : (m : Graph) (laws : AreChoices m) (g limit : ℕ) (t t' : Known) → IsUnfolded m g → ((i : ℕ) → t.bound i ≤ t'.bound i) → AllCost m t g limit → AllCost m t' g limit
all_cost m laws g limit t t' o r all = λ k l. omega (arith, all k l, at_rises m laws g k (o.0, o.1, l) t t' r)

pub no_more : (m : Graph) (t : Known) (g k : ℕ) (best b : Best) → IsNext m t g k best b → b.cost ≤ best.cost
no_more m t g k best b (inl e) = omega (arith, ap (λ (w : Best). w.cost) e)
no_more m t g k best b (inr h) = omega (arith, h.1)

-- what is known of an unfolded goal stays
module _ (m m' : Graph) (ext : Extends m m') (g : ℕ) (is_unfolded : IsUnfolded m g) where
  pub count_in : (k : ℕ) → k < m'.count g → k < m.count g
  count_in k l = subst (λ n. k < n) (ext.count g is_unfolded.1) l

  pub cost_in : (t : Known) (k : ℕ) → at_bounds t (m'.alternative g k) ≡ at_bounds t (m.alternative g k)
  cost_in t k = ap (at_bounds t) (ext.alternative g k is_unfolded.1)

  solves_in : (t : Known) (k c : ℕ) → Solves m' t g k c → Solves m t g k c
  solves_in t k c s = (count_in k s.0, subst (λ a. AllHold t a.inputs) (ext.alternative g k is_unfolded.1) s.1, subst (λ a. c ≡ a.cost (map t.bound a.inputs)) (ext.alternative g k is_unfolded.1) s.2)

  solves_out : (t : Known) (k c : ℕ) → Solves m t g k c → Solves m' t g k c
  solves_out t k c s = (subst (λ n. k < n) (sym (ext.count g is_unfolded.1)) s.0, subst (λ a. AllHold t a.inputs) (sym (ext.alternative g k is_unfolded.1)) s.1, subst (λ a. c ≡ a.cost (map t.bound a.inputs)) (sym (ext.alternative g k is_unfolded.1)) s.2)

  -- what an attempt makes of the best
  pub stands_next : (t t' : Known) (limit k : ℕ) (best b : Best) → Rises t t' → Stands m t g limit best.cost best.choice → best.cost ≤ limit → IsNext m' t' g k best b → Stands m t' g limit b.cost b.choice
  stands_next t t' limit k best b r s low (inl e) = subst (λ w. Stands m t' g limit w.cost w.choice) (sym e) (stands_rises m t t' g limit best.cost best.choice r s)
  stands_next t t' limit k best b r s low (inr h) = subst (Stands m t' g limit b.cost) (sym h.0) (omega (arith, h.1), solves_in t' k b.cost h.2)

module _ (m m' : Graph) (laws : AreChoices m) (ext : Extends m m') (g : ℕ) (is_unfolded : IsUnfolded m g) where
  -- an alternative below the limit now was below it before
  pub not_lazy : (t t' : Known) (limit cost k : ℕ) → ((i : ℕ) → t.bound i ≤ t'.bound i) → k < m'.count g → at_bounds t' (m'.alternative g k) < cost → cost ≤ limit → AllCost m t g limit → ⊥
  not_lazy t t' limit cost k r l b h all =
      let here : k < m.count g = count_in m m' ext g is_unfolded k l in
      omega (arith, all k here, at_rises m laws g k (is_unfolded.0, is_unfolded.1, here) t t' r, cost_in m m' ext g is_unfolded t' k)

  -- fewer alternatives are left
  pub fewer : (t t' : Known) (c c' k : ℕ) → ((i : ℕ) → t.bound i ≤ t'.bound i) → c' ≤ c → k < m'.count g → at_bounds t (m'.alternative g k) < c → c' ≤ at_bounds t' (m'.alternative g k)
      → count_below (m.count g) (λ j. at_bounds t' (m.alternative g j)) c' < count_below (m.count g) (λ j. at_bounds t (m.alternative g j)) c
  fewer t t' c c' k r le l b p =
      count_lt (m.count g) (λ j. at_bounds t (m.alternative g j)) (λ j. at_bounds t' (m.alternative g j)) c c' k
      (λ j h w. omega (arith, w, le, at_rises m laws g j (is_unfolded.0, is_unfolded.1, h) t t' r)) (count_in m m' ext g is_unfolded k l)
      (omega (arith, b, cost_in m m' ext g is_unfolded t k)) (omega (arith, p, cost_in m m' ext g is_unfolded t' k))

pub solves_of : (m : Graph) (t : Known) (g limit cost : ℕ) (choice : Option ℕ) → Stands m t g limit cost choice → (k : ℕ) → choice ≡ Some k → Solves m t g k cost
solves_of m t g limit cost None s k e = cc
solves_of m t g limit cost (Some j) s k e = let same : j ≡ k = cc in subst (λ i. Solves m t g i cost) same s.1

pub if_some : (o : Option ℕ) (P : ℕ → Type 0) (k : ℕ) → IfSome o P → o ≡ Some k → P k
if_some None P k h e = cc
if_some (Some j) P k h e = let same : j ≡ k = cc in subst P same h

-- the bound that is put stands as the best does
pub stands_bound : (m : Graph) (t : Known) (g limit cost v : ℕ) (choice : Option ℕ) → Stands m t g limit cost choice → cost ≤ v → IfSome choice (λ k. v ≡ cost) → Stands m t g limit v choice
stands_bound m t g limit cost v None s low solved = omega (arith, s, low)
stands_bound m t g limit cost v (Some k) s low solved = subst (λ w. Stands m t g limit w (Some k)) (sym solved) s

-- the end of a search: m, es at its start, m', es' at its end, es'' with the goal's entry put
module _ (m m' : Graph) (laws' : AreChoices m') (rank rank' : ℕ → ℕ) (reaches reaches' : Reaches) (moves' : AreMoves m' rank' reaches') (ext : Extends m m') (same : KeepsAnswers m rank rank' reaches reaches')
    (L : Type 0) (es es' es'' : List Entry) (g limit v : ℕ) (c : Option ℕ) (leaves : Leaves L m' reaches' es es' (KeepsUpper m rank (known es) (known es') g))
    (room : g < length es') (is_put : es'' ≡ slice_set es' g (record { bound = v; choice = c })) (is_unfolded : IsUnfolded m g) (none : (known es).choice g ≡ None) (low : (known es).bound g ≤ limit)
    (all : AllCost m' (known es') g v) (stands : Stands m (known es') g limit v c) where
  put : IsPut (known es') (known es'') g v c
  put = subst (λ (ds : List Entry). IsPut (known es') (known ds) g v c) (sym is_put) (put_is es' g (record { bound = v; choice = c }) room)

  unfolded' : IsUnfolded m' g
  unfolded' = (omega (arith, ext.goals, is_unfolded.0), ext.unfolded g is_unfolded.1)

  solves' : (k : ℕ) → c ≡ Some k → Solves m' (known es') g k v
  solves' k e = solves_out m m' ext g is_unfolded (known es') k v (solves_of m (known es') g limit v c stands k e)

  none' : (known es').choice g ≡ None
  none' = (leaves.others g is_unfolded.0 (omega arith)).1 ∙ none

  up_at : (d : Option ℕ) → c ≡ d → Stands m (known es') g limit v d → (known es').bound g ≤ v
  up_at None e s = omega (arith, (leaves.others g is_unfolded.0 (omega arith)).0, low, s)
  up_at (Some k) e s = leaves.right.low g v (solves_reaches m' reaches' (known es') leaves.right rank' moves' g k v unfolded' (solves' k e))

  right' : IsRight m' reaches' (known es'')
  right' = put_right m' laws' rank' reaches' moves' (known es') (known es'') leaves.right g v c put unfolded' none' all (up_at c refl stands) solves'

  rises' : Rises (known es') (known es'')
  rises' = put_rises m' laws' rank' reaches' moves' (known es') (known es'') leaves.right g v c put unfolded' none' all (up_at c refl stands) solves'

  pub end_leaves : Leaves L m' reaches' es es'' (KeepsOthers m rank (known es) (known es'') g)
  end_leaves = record {
    moves = leaves.moves;
    right = right';
    rises = rises_on (known es) (known es') (known es'') leaves.rises rises';
    longer = omega (arith, leaves.longer, length_set es' g (record { bound = v; choice = c }), ap length is_put);
    others = λ h there r n. ((put.others h n).0 ∙ (leaves.others h there r).0, (put.others h n).1 ∙ (leaves.others h there r).1);
  }

  pub end_answers : (f : Found) → ((k : ℕ) → c ≡ Some k → f ≡ Below v) → (c ≡ None → f ≡ NotBelow) → Answers reaches (known es'') g limit f
  end_answers f some nothing =
      answers_same reaches reaches' (known es'') g limit f (λ d. (same.costs g d is_unfolded.0).0) (λ d. (same.costs g d is_unfolded.0).1)
      (answers_best m' reaches' (known es') (known es'') right' rank' moves' m' g limit v c f put (at c refl stands) some nothing) where
        at : (d : Option ℕ) → c ≡ d → Stands m (known es') g limit v d → Stands m' (known es') g limit v d
        at None e s = s
        at (Some k) e s = (s.0, solves' k e)

-- nothing below the limit is found where each alternative costs at least that at bounds
pub lazy_answer : (m : Graph) (laws : AreChoices m) (rank : ℕ → ℕ) (reaches : Reaches) (moves : AreMoves m rank reaches) (t t' : Known) (right : IsRight m reaches t) (g limit : ℕ) (f : Found)
    → IsUnfolded m g → AllCost m t g limit → Answers reaches t' g limit f → IsNotBelowOrMemory (Ok f)
lazy_answer m laws rank reaches moves t t' right g limit NotBelow o all h = tt
lazy_answer m laws rank reaches moves t t' right g limit (Below c) o all h =
    let (k, l, gives) = (moves.reached g c o).0 h.0.0 in
    let low = at_low m laws g k (o.0, o.1, l) reaches t c right.low moves.capped gives in
    absurd (omega (arith, low, all k l, h.1))
