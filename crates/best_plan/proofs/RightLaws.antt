-- Tables that are right: what their solutions are, and what keeps them right.
use Rattle.std.proofs.Common.{◌≡◌, ◌≢◌, ℕ, zero, suc, ◌≤◌, ◌<◌, true, false, List, [], ◌∷◌, length, map, take, Option, Some, None, refl, ap, sym, ◌∙◌, subst, arith, inl, inr}
use Rattle.std.specs.Prelude.{◌⊎◌, IsSome, slice_get, slice_set}
use Rattle.std.specs.List.{AllZip, AllByRecursion}
use Rattle.pr_value.specs.Capped.{cap}
use Rattle.best_plan.specs.declared.table.Entry.{Entry}
use Rattle.best_plan.specs.declared.searching.Found.{Found}
use Rattle.best_plan.specs.declared.searching.Found.TheVariants.{Below, NotBelow}
use Rattle.best_plan.specs.Moves.{Alternative, Graph, IsUnfolded, IsAlternative, Reaches, IsLeast, AreChoices, AreMoves, Extends, KeepsAnswers}
use Rattle.best_plan.specs.Tables.{Known, known, bound_in, choice_in, HoldsSolution, AllHold, at_bounds, Solves, IsRight, Rises, IsKept, KeepsOthers, KeepsUpper, Leaves}
use Rattle.best_plan.specs.Answers.{Answers, AllCost, Stands}
use Rattle.best_plan.proofs.BoundLaws.{all_at, either, at_cost, at_rises, at_low, each_within}

pub has_choice : (o : Option ℕ) → IsSome o → (k : ℕ) × (o ≡ Some k)
has_choice None h = cc
has_choice (Some k) h = (k, refl)

pub is_some_at : (o : Option ℕ) (k : ℕ) → o ≡ Some k → IsSome o
is_some_at None k e = cc
is_some_at (Some j) k e = refl

pub none_or_some : (o : Option ℕ) → (o ≡ None) ⊎ IsSome o
none_or_some None = inl refl
none_or_some (Some k) = inr refl

apart : (k : ℕ) → Some k ≡ None → ⊥
apart k e = cc

differ : true ≡ false → ⊥
differ e = cc

pub below_or_not : (g n : ℕ) → (g < n) ⊎ (n ≤ g)
below_or_not g zero = inr (omega arith)
below_or_not zero (suc n) = inl (omega arith)
below_or_not (suc g) (suc n) = elim (below_or_not g n) [ inl h ↦ inl (omega (arith, h)) | inr h ↦ inr (omega (arith, h)) ]

pub same_or_not : (h g : ℕ) → (h ≡ g) ⊎ (h ≢ g)
same_or_not zero zero = inl refl
same_or_not zero (suc g) = inr (λ e. omega (arith, e))
same_or_not (suc h) zero = inr (λ e. omega (arith, e))
same_or_not (suc h) (suc g) = elim (same_or_not h g) [ inl e ↦ inl (ap suc e) | inr n ↦ inr (λ e. n (omega (arith, e))) ]

pub unfolded_or_not : (m : Graph) (g : ℕ) → IsUnfolded m g ⊎ (IsUnfolded m g → ⊥)
unfolded_or_not m g = by_there (below_or_not g m.goals) (either (m.unfolded g)) where
  by_there : (g < m.goals) ⊎ (m.goals ≤ g) → (m.unfolded g ≡ true) ⊎ (m.unfolded g ≡ false) → IsUnfolded m g ⊎ (IsUnfolded m g → ⊥)
  by_there (inl h) (inl u) = inl (h, u)
  by_there (inl h) (inr u) = inr (λ o. differ (sym o.1 ∙ u))
  by_there (inr h) u = inr (λ o. (let n : ⊥ = omega (arith, h, o.0) in n))

module _ (m : Graph) (reaches : Reaches) (t : Known) (right : IsRight m reaches t) where
  -- only an unfolded goal holds a solution
  pub unfolded_of : (g : ℕ) → HoldsSolution t g → IsUnfolded m g
  unfolded_of g h = by_cases (unfolded_or_not m g) where
    by_cases : IsUnfolded m g ⊎ (IsUnfolded m g → ⊥) → IsUnfolded m g
    by_cases (inl o) = o
    by_cases (inr n) = (let (k, e) = has_choice (t.choice g) h in absurd (apart k (sym e ∙ (right.fresh g n).1)))

  module _ (rank : ℕ → ℕ) (moves : AreMoves m rank reaches) where
    zip_held : (top : ℕ) (gs : List ℕ) → AllByRecursion (λ i. rank i < top) gs → AllHold t gs → ((i : ℕ) → rank i < top → HoldsSolution t i → reaches i (t.bound i)) → AllZip reaches gs (map t.bound gs)
    zip_held top [] r h f = tt
    zip_held top (g ∷ gs) r h f = (f g r.0 h.0, zip_held top gs r.1 h.1 f)

    reached_below : (n g : ℕ) → rank g < n → HoldsSolution t g → reaches g (t.bound g)
    reached_below zero g h s = absurd (omega (arith, h))
    reached_below (suc n) g h s =
        let (k, e) = has_choice (t.choice g) s in
        let is : Solves m t g k (t.bound g) = right.solved g k e in
        let o : IsUnfolded m g = unfolded_of g s in
        let falls : AllByRecursion (λ i. rank i < rank g) (m.alternative g k).inputs = moves.ranked g k (o.0, o.1, is.0) in
        let zip = zip_held (rank g) (m.alternative g k).inputs falls is.1 (λ i l w. reached_below n i (omega (arith, l, h)) w) in
        (moves.reached g (t.bound g) o).1 (k, is.0, (map t.bound (m.alternative g k).inputs, zip, sym is.2))

    pub held_is_reached : (g : ℕ) → HoldsSolution t g → reaches g (t.bound g)
    held_is_reached g h = reached_below (suc (rank g)) g (omega arith) h

    -- a solution that is held costs the least that its goal reaches
    pub solution_is_least : (g : ℕ) → HoldsSolution t g → IsLeast reaches g (t.bound g)
    solution_is_least g h = (held_is_reached g h, λ d r. right.low g d r)

    zip_all : (gs : List ℕ) → AllHold t gs → AllZip reaches gs (map t.bound gs)
    zip_all [] h = tt
    zip_all (g ∷ gs) h = (held_is_reached g h.0, zip_all gs h.1)

    within_all : (gs : List ℕ) → AllHold t gs → AllByRecursion (λ i. t.bound i ≤ cap) gs
    within_all [] h = tt
    within_all (g ∷ gs) h = (moves.capped g (t.bound g) (held_is_reached g h.0), within_all gs h.1)

    -- where the inputs hold solutions, the cost at their bounds is what the alternative gives
    pub at_held : (a : Alternative) → AllHold t a.inputs → at_bounds t a ≡ a.cost (map t.bound a.inputs)
    at_held a h = at_cost t a (each_within t a.inputs (within_all a.inputs h))

    pub solves_reaches : (g k c : ℕ) → IsUnfolded m g → Solves m t g k c → reaches g c
    solves_reaches g k c o is = (moves.reached g c o).1 (k, is.0, (map t.bound (m.alternative g k).inputs, zip_all (m.alternative g k).inputs is.1, sym is.2))

-- it stays right when more is unfolded
pub right_later : (m m' : Graph) (rank rank' : ℕ → ℕ) (reaches reaches' : Reaches) (t : Known) → Extends m m' → KeepsAnswers m rank rank' reaches reaches' → IsRight m reaches t → IsRight m' reaches' t
right_later m m' rank rank' reaches reaches' t ext same right = record {
  low = λ g c r. (let by : (g < m.goals) ⊎ (m.goals ≤ g) → t.bound g ≤ c = λ o. elim o [ inl h ↦ right.low g c ((same.costs g c h).1 r) | inr h ↦ omega (arith, (right.fresh g (λ o. (let n : ⊥ = omega (arith, h, o.0) in n))).0) ] in by (below_or_not g m.goals));
  fresh = λ g n. right.fresh g (λ o. n (omega (arith, ext.goals, o.0), ext.unfolded g o.1));
  covered = λ g k is. covers g k is (unfolded_or_not m g);
  solved = λ g k e. solves g k e (right.solved g k e) (unfolded_of m reaches t right g (is_some_at (t.choice g) k e));
} where
  covers : (g k : ℕ) → IsAlternative m' g k → IsUnfolded m g ⊎ (IsUnfolded m g → ⊥) → t.bound g ≤ at_bounds t (m'.alternative g k)
  covers g k is (inl o) = subst (λ a. t.bound g ≤ at_bounds t a) (sym (ext.alternative g k o.1)) (right.covered g k (o.0, o.1, subst (λ n. k < n) (ext.count g o.1) is.2))
  covers g k is (inr n) = omega (arith, (right.fresh g n).0)

  solves : (g k : ℕ) → t.choice g ≡ Some k → Solves m t g k (t.bound g) → IsUnfolded m g → Solves m' t g k (t.bound g)
  solves g k e s o = (subst (λ n. k < n) (sym (ext.count g o.1)) s.0, subst (λ a. AllHold t a.inputs) (sym (ext.alternative g k o.1)) s.1, subst (λ a. t.bound g ≡ a.cost (map t.bound a.inputs)) (sym (ext.alternative g k o.1)) s.2)

-- what holds of a risen table
pub rises_same : (t : Known) → Rises t t
rises_same t = record { bound = λ g. omega arith; choice = λ g h. refl; cost = λ g h. refl }

pub held_rises : (t t' : Known) → Rises t t' → (g : ℕ) → HoldsSolution t g → HoldsSolution t' g
held_rises t t' r g h = subst (λ o. IsSome o) (sym (r.choice g h)) h

pub rises_on : (t t' t'' : Known) → Rises t t' → Rises t' t'' → Rises t t''
rises_on t t' t'' r s = record {
  bound = λ g. omega (arith, r.bound g, s.bound g);
  choice = λ g h. s.choice g (held_rises t t' r g h) ∙ r.choice g h;
  cost = λ g h. s.cost g (held_rises t t' r g h) ∙ r.cost g h;
}

pub all_rise : (t t' : Known) → Rises t t' → (gs : List ℕ) → AllHold t gs → AllHold t' gs
all_rise t t' r [] h = tt
all_rise t t' r (g ∷ gs) h = (held_rises t t' r g h.0, all_rise t t' r gs h.1)

bounds_stay : (t t' : Known) → Rises t t' → (gs : List ℕ) → AllHold t gs → map t'.bound gs ≡ map t.bound gs
bounds_stay t t' r [] h = refl
bounds_stay t t' r (g ∷ gs) h = ap (λ x. x ∷ map t'.bound gs) (r.cost g h.0) ∙ ap (λ l. t.bound g ∷ l) (bounds_stay t t' r gs h.1)

pub solves_rises : (m : Graph) (t t' : Known) (g k c : ℕ) → Rises t t' → Solves m t g k c → Solves m t' g k c
solves_rises m t t' g k c r s = (s.0, all_rise t t' r (m.alternative g k).inputs s.1, s.2 ∙ ap (m.alternative g k).cost (sym (bounds_stay t t' r (m.alternative g k).inputs s.1)))

pub stands_rises : (m : Graph) (t t' : Known) (g limit cost : ℕ) (choice : Option ℕ) → Rises t t' → Stands m t g limit cost choice → Stands m t' g limit cost choice
stands_rises m t t' g limit cost None r s = s
stands_rises m t t' g limit cost (Some k) r s = (s.0, solves_rises m t t' g k cost r s.1)

pub held_more : (P : ℕ → Type 0) (gs : List ℕ) (i : ℕ) → AllByRecursion P (take i gs) → ((x : ℕ) → slice_get gs i ≡ Some x → P x) → AllByRecursion P (take (suc i) gs)
held_more P [] i h f = tt
held_more P (g ∷ gs) zero h f = (f g refl, tt)
held_more P (g ∷ gs) (suc i) h f = (h.0, held_more P gs i h.1 f)

-- one entry is put
pub record IsPut (t t' : Known) (g v : ℕ) (c : Option ℕ) : Type 0 where
  pub bound : t'.bound g ≡ v
  pub choice : t'.choice g ≡ c
  pub others : (h : ℕ) → h ≢ g → IsKept t t' h

get_same : (es : List Entry) (g : ℕ) (e : Entry) → g < length es → slice_get (slice_set es g e) g ≡ Some e
get_same [] g e h = absurd (omega (arith, h))
get_same (x ∷ es) zero e h = refl
get_same (x ∷ es) (suc g) e h = get_same es g e (omega (arith, h))

get_other : (es : List Entry) (g h : ℕ) (e : Entry) → h ≢ g → slice_get (slice_set es g e) h ≡ slice_get es h
get_other [] g h e n = refl
get_other (x ∷ es) zero zero e n = absurd (n refl)
get_other (x ∷ es) zero (suc h) e n = refl
get_other (x ∷ es) (suc g) zero e n = refl
get_other (x ∷ es) (suc g) (suc h) e n = get_other es g h e (λ s. n (ap suc s))

pub put_is : (es : List Entry) (g : ℕ) (e : Entry) → g < length es → IsPut (known es) (known (slice_set es g e)) g e.bound e.choice
put_is es g e h = record {
  bound = ap bound_in (get_same es g e h);
  choice = ap choice_in (get_same es g e h);
  others = λ i n. (ap bound_in (get_other es g i e n), ap choice_in (get_other es g i e n));
}

module _ (m : Graph) (laws : AreChoices m) (rank : ℕ → ℕ) (reaches : Reaches) (moves : AreMoves m rank reaches) (t t' : Known) (right : IsRight m reaches t) (g v : ℕ) (c : Option ℕ)
    (put : IsPut t t' g v c) (is_open : IsUnfolded m g) (none : t.choice g ≡ None) (all : AllCost m t g v) (up : t.bound g ≤ v) (solves : (k : ℕ) → c ≡ Some k → Solves m t g k v) where
  holds_not : HoldsSolution t g → ⊥
  holds_not h = (let (k, e) = has_choice (t.choice g) h in apart k (sym e ∙ none))

  other_than : (h : ℕ) → HoldsSolution t h → h ≢ g
  other_than h s e = holds_not (subst (HoldsSolution t) e s)

  pub put_rises : Rises t t'
  put_rises = record {
    bound = λ h. higher h (same_or_not h g);
    choice = λ h s. (put.others h (other_than h s)).1;
    cost = λ h s. (put.others h (other_than h s)).0;
  } where
    higher : (h : ℕ) → (h ≡ g) ⊎ (h ≢ g) → t.bound h ≤ t'.bound h
    higher h (inl e) = subst (λ x. t.bound x ≤ t'.bound x) (sym e) (omega (arith, put.bound))
    higher h (inr n) = omega (arith, (put.others h n).0)

  pub put_right : IsRight m reaches t'
  put_right = record {
    low = λ h d r. lows h d r (same_or_not h g);
    fresh = λ h n. freshes h n (same_or_not h g);
    covered = λ h k is. covers h k is (same_or_not h g);
    solved = λ h k e. solved_at h k e (same_or_not h g);
  } where
    lows : (h d : ℕ) → reaches h d → (h ≡ g) ⊎ (h ≢ g) → t'.bound h ≤ d
    lows h d r (inl e) =
        let (k, l, gives) = (moves.reached g d is_open).0 (subst (λ x. reaches x d) e r) in
        let low = at_low m laws g k (is_open.0, is_open.1, l) reaches t d right.low moves.capped gives in
        subst (λ x. t'.bound x ≤ d) (sym e) (omega (arith, put.bound, all k l, low))
    lows h d r (inr n) = omega (arith, (put.others h n).0, right.low h d r)

    freshes : (h : ℕ) → (IsUnfolded m h → ⊥) → (h ≡ g) ⊎ (h ≢ g) → (t'.bound h ≡ 0) × (t'.choice h ≡ None)
    freshes h n (inl e) = absurd (n (subst (IsUnfolded m) (sym e) is_open))
    freshes h n (inr d) = ((put.others h d).0 ∙ (right.fresh h n).0, (put.others h d).1 ∙ (right.fresh h n).1)

    covers : (h k : ℕ) → IsAlternative m h k → (h ≡ g) ⊎ (h ≢ g) → t'.bound h ≤ at_bounds t' (m.alternative h k)
    covers h k is (inl e) =
        let here : v ≤ at_bounds t (m.alternative h k) = subst (λ x. v ≤ at_bounds t (m.alternative x k)) (sym e) (all k (subst (λ x. k < m.count x) e is.2)) in
        let same : t'.bound h ≡ v = ap t'.bound e ∙ put.bound in
        omega (arith, same, here, at_rises m laws h k is t t' put_rises.bound)
    covers h k is (inr n) = omega (arith, (put.others h n).0, right.covered h k is, at_rises m laws h k is t t' put_rises.bound)

    solved_at : (h k : ℕ) → t'.choice h ≡ Some k → (h ≡ g) ⊎ (h ≢ g) → Solves m t' h k (t'.bound h)
    solved_at h k e (inl s) =
        let at : Solves m t' g k v = solves_rises m t t' g k v put_rises (solves k (sym put.choice ∙ (ap t'.choice (sym s) ∙ e))) in
        subst (λ x. Solves m t' x k (t'.bound x)) (sym s) (subst (Solves m t' g k) (sym put.bound) at)
    solved_at h k e (inr n) = subst (Solves m t' h k) (sym (put.others h n).0) (solves_rises m t t' h k (t.bound h) put_rises (right.solved h k (sym (put.others h n).1 ∙ e)))

-- the search goes on below the same goal
pub leaves_on : (L L' L'' : Type 0) (m m' m'' : Graph) (rank rank' : ℕ → ℕ) (reaches reaches' reaches'' : Reaches) (es es' es'' : List Entry) (g : ℕ)
    → (L → L' → L'') → Extends m m' → KeepsAnswers m rank rank' reaches reaches' → g < m.goals
    → Leaves L m' reaches' es es' (KeepsUpper m rank (known es) (known es') g) → Leaves L' m'' reaches'' es' es'' (KeepsUpper m' rank' (known es') (known es'') g)
    → Leaves L'' m'' reaches'' es es'' (KeepsUpper m rank (known es) (known es'') g)
leaves_on L L' L'' m m' m'' rank rank' reaches reaches' reaches'' es es' es'' g chain ext same there a b = record {
  moves = chain a.moves b.moves;
  right = b.right;
  rises = rises_on (known es) (known es') (known es'') a.rises b.rises;
  longer = omega (arith, a.longer, b.longer);
  others = λ h l r. (
      let first = a.others h l r in
      let next = b.others h (omega (arith, ext.goals, l)) (omega (arith, same.ranks g there, same.ranks h l, r)) in
      (next.0 ∙ first.0, next.1 ∙ first.1)
      );
}

-- goals of no smaller rank than one above are others
pub others_upper : (m : Graph) (rank : ℕ → ℕ) (t t' : Known) (x g : ℕ) → rank x < rank g → KeepsOthers m rank t t' x → KeepsUpper m rank t t' g
others_upper m rank t t' x g l k = λ h there r. k h there (omega (arith, l, r)) (λ e. (let n : ⊥ = omega (arith, l, r, ap rank e) in n))

pub input_ranked : (m : Graph) (rank : ℕ → ℕ) (reaches : Reaches) (moves : AreMoves m rank reaches) (g k i x : ℕ) → IsAlternative m g k → slice_get (m.alternative g k).inputs i ≡ Some x → rank x < rank g
input_ranked m rank reaches moves g k i x is e = all_at (λ y. rank y < rank g) (m.alternative g k).inputs i x (moves.ranked g k is) e

-- what the search of an input leaves below its goal
pub leaves_below : (L : Type 0) (m after : Graph) (rank : ℕ → ℕ) (reaches : Reaches) (es es' : List Entry) (x g : ℕ) → rank x < rank g
    → L → IsRight after reaches (known es') → Rises (known es) (known es') → length es ≤ length es' → KeepsOthers m rank (known es) (known es') x
    → Leaves L after reaches es es' (KeepsUpper m rank (known es) (known es') g)
leaves_below L m after rank reaches es es' x g l moves right rises longer others =
    record { moves = moves; right = right; rises = rises; longer = longer; others = others_upper m rank (known es) (known es') x g l others }

pub answers_held : (m : Graph) (reaches : Reaches) (t : Known) (right : IsRight m reaches t) (rank : ℕ → ℕ) (moves : AreMoves m rank reaches) (g limit : ℕ) (f : Found) → HoldsSolution t g
    → (t.bound g < limit → f ≡ Below (t.bound g)) → (limit ≤ t.bound g → f ≡ NotBelow) → Answers reaches t g limit f
answers_held m reaches t right rank moves g limit f h below not_below = by_order (below_or_not (t.bound g) limit) where
  by_order : (t.bound g < limit) ⊎ (limit ≤ t.bound g) → Answers reaches t g limit f
  by_order (inl l) = subst (Answers reaches t g limit) (sym (below l)) (solution_is_least m reaches t right rank moves g h, l, h, refl)
  by_order (inr l) = subst (Answers reaches t g limit) (sym (not_below l)) ((λ c r. omega (arith, l, right.low g c r)), l)

pub answers_low : (m : Graph) (reaches : Reaches) (t : Known) → IsRight m reaches t → (g limit : ℕ) → limit ≤ t.bound g → Answers reaches t g limit NotBelow
answers_low m reaches t right g limit l = ((λ c r. omega (arith, l, right.low g c r)), l)

pub answers_best : (m : Graph) (reaches : Reaches) (t t' : Known) (right : IsRight m reaches t') (rank : ℕ → ℕ) (moves : AreMoves m rank reaches) (n : Graph) (g limit v : ℕ) (c : Option ℕ) (f : Found)
    → IsPut t t' g v c → Stands n t g limit v c → ((k : ℕ) → c ≡ Some k → f ≡ Below v) → (c ≡ None → f ≡ NotBelow) → Answers reaches t' g limit f
answers_best m reaches t t' right rank moves n g limit v None f put stands some none =
    subst (Answers reaches t' g limit) (sym (none refl)) (answers_low m reaches t' right g limit (omega (arith, put.bound, stands)))
answers_best m reaches t t' right rank moves n g limit v (Some k) f put stands some none =
    let held : HoldsSolution t' g = is_some_at (t'.choice g) k put.choice in
    subst (Answers reaches t' g limit) (sym (some k refl)) (subst (IsLeast reaches g) put.bound (solution_is_least m reaches t' right rank moves g held), stands.0, held, put.bound)

-- the same answer where the goal reaches the same
pub answers_same : (reaches reaches' : Reaches) (t : Known) (g limit : ℕ) (f : Found) → ((c : ℕ) → reaches g c → reaches' g c) → ((c : ℕ) → reaches' g c → reaches g c) → Answers reaches' t g limit f → Answers reaches t g limit f
answers_same reaches reaches' t g limit (Below c) to from h = ((from c h.0.0, λ d r. h.0.1 d (to d r)), h.1, h.2, h.3)
answers_same reaches reaches' t g limit NotBelow to from h = ((λ c r. h.0 c (to c r)), h.1)
