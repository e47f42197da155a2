-- What is carried, as goals are gone through in the order of ranks.
use Rattle.std.proofs.Common.{◌≡◌, ◌≢◌, ℕ, zero, suc, ◌+◌, ◌≤◌, ◌<◌, ◌⊎◌, ◌↔◌, Bool, true, false, List, [], ◌∷◌, length, Option, Some, None, slice_get, slice_index_or, refl, ap, sym, ◌∙◌, subst, arith, inl, inr}
use Rattle.std.proofs.lemmas.Bool.{cases_eq}
use Rattle.best_plan.specs.Moves.{Graph, Reaches, AreMoves}
use Rattle.best_plan.specs.Tables.{Known}
use Rattle.best_plan.proofs.RightLaws.{IsPut}
use Rattle.replan.specs.Carried.{Form, place, KeptAs, Matches, Carries}
use Rattle.replan.specs.Ranked.{AreRanked}
use Rattle.replan.specs.declared.ranked.Ranked.{Ranked}
use Rattle.replan.proofs.MatchLaws.{Agree, matches_agree}

get_less : (xs : List Ranked) (i : ℕ) (x : Ranked) → slice_get xs i ≡ Some x → i < length xs
get_less [] i x e = cc
get_less (y ∷ ys) zero x e = omega arith
get_less (y ∷ ys) (suc i) x e = omega (arith, get_less ys i x e)

pub get_at : (xs : List Ranked) (i : ℕ) (d : Ranked) → i < length xs → slice_get xs i ≡ Some (slice_index_or xs i d)
get_at [] i d l = absurd (omega (arith, l))
get_at (y ∷ ys) zero d l = refl
get_at (y ∷ ys) (suc i) d l = get_at ys i d (omega (arith, l))

index_is : (xs : List Ranked) (i : ℕ) (x d : Ranked) → slice_get xs i ≡ Some x → slice_index_or xs i d ≡ x
index_is [] i x d e = cc
index_is (y ∷ ys) zero x d e = cc
index_is (y ∷ ys) (suc i) x d e = index_is ys i x d e

some_goal : (x y : Ranked) → Some x ≡ Some y → x ≡ y
some_goal x y e = cc

some_is : (x y : ℕ) → Some x ≡ Some y → x ≡ y
some_is x y e = cc

differ : true ≡ false → ⊥
differ e = cc

-- the goals before place i are kept exactly where they match, and no others
pub record Carrying (old new : Graph) (form : Form) (places : List (Option ℕ)) (before : Known) (order : List Ranked) (i : ℕ) (kept : ℕ → Bool) (after : Known) : Type 0 where
  pub exact : (j : ℕ) (x : Ranked) → j < i → slice_get order j ≡ Some x → kept x.goal ≡ true ↔ ((h : ℕ) × Matches old new form places kept x.goal h)
  pub from : (g : ℕ) → kept g ≡ true → (j : ℕ) × (x : Ranked) × (j < i) × (slice_get order j ≡ Some x) × (x.goal ≡ g)
  pub bound : (g h : ℕ) → KeptAs kept places g h → after.bound g ≡ before.bound h
  pub choice : (g h : ℕ) → KeptAs kept places g h → after.choice g ≡ before.choice h
  pub others : (g : ℕ) → kept g ≡ false → (after.bound g ≡ 0) × (after.choice g ≡ None)

module _ (old new : Graph) (rank' : ℕ → ℕ) (reaches' : Reaches) (moves' : AreMoves new rank' reaches') (form : Form) (places : List (Option ℕ)) (t : Known) (order : List Ranked) (ranked : AreRanked new.goals rank' order) where
  -- nothing is kept at the start
  pub carrying_none : (kept : ℕ → Bool) (t' : Known) → ((g : ℕ) → kept g ≡ false) → ((g : ℕ) → (t'.bound g ≡ 0) × (t'.choice g ≡ None)) → Carrying old new form places t order 0 kept t'
  carrying_none kept t' none empty = record {
    exact = λ j x l e. absurd (omega (arith, l));
    from = λ g e. absurd (differ (sym e ∙ none g));
    bound = λ g h k. absurd (differ (sym k.0 ∙ none g));
    choice = λ g h k. absurd (differ (sym k.0 ∙ none g));
    others = λ g e. empty g;
  }

  -- the goal at place i
  module _ (i : ℕ) (x : Ranked) (at : slice_get order i ≡ Some x) (kept : ℕ → Bool) (t' : Known) (carrying : Carrying old new form places t order i kept t') where
    rank_of : (j : ℕ) (y : Ranked) → slice_get order j ≡ Some y → y.rank ≡ rank' y.goal
    rank_of j y e = (ranked.only y (j, get_less order j y e, index_is order j y y e)).1

    low : (j : ℕ) (y : Ranked) → j ≤ i → slice_get order j ≡ Some y → rank' y.goal ≤ rank' x.goal
    low j y l e = omega (
      arith,
      rank_of j y e,
      rank_of i x at,
      ranked.rises j i x l (get_less order i x at),
      ap (λ (r : Ranked). r.rank) (index_is order j y x e),
      ap (λ (r : Ranked). r.rank) (index_is order i x x at),
    )

    -- it matches nothing
    module _ (none : (h : ℕ) → Matches old new form places kept x.goal h → ⊥) where
      not_kept : kept x.goal ≡ true → ⊥
      not_kept e =
          let (j, y, l, found, is) = carrying.from x.goal e in
          let (h, matches) = (carrying.exact j y l found).0 (subst (λ g. kept g ≡ true) (sym is) e) in
          none h (subst (λ g. Matches old new form places kept g h) is matches)

      exact_skip : (j : ℕ) (y : Ranked) → j < i + 1 → slice_get order j ≡ Some y → kept y.goal ≡ true ↔ ((h : ℕ) × Matches old new form places kept y.goal h)
      exact_skip j y l e = by_place (cases_eq j i) where
        by_place : (j ≡ i) ⊎ (j ≡ i → ⊥) → kept y.goal ≡ true ↔ ((h : ℕ) × Matches old new form places kept y.goal h)
        by_place (inl s) = (let same : x ≡ y = some_goal x y (sym at ∙ subst (λ n. slice_get order n ≡ Some y) s e) in
            subst (λ (r : Ranked). kept r.goal ≡ true ↔ ((h : ℕ) × Matches old new form places kept r.goal h)) same ((λ k. absurd (not_kept k)), (λ m. absurd (none m.0 m.1))))
        by_place (inr d) = carrying.exact j y (omega (arith, l, d)) e

      pub carrying_skip : Carrying old new form places t order (i + 1) kept t'
      carrying_skip = record {
        exact = exact_skip;
        from = λ g e. (let (j, y, l, found, is) = carrying.from g e in (j, y, omega (arith, l), found, is));
        bound = carrying.bound;
        choice = carrying.choice;
        others = carrying.others;
      }

    -- it matches a goal, whose entry it gets
    module _ (h : ℕ) (matches : Matches old new form places kept x.goal h) (kept' : ℕ → Bool) (set : kept' x.goal ≡ true) (rest : (g : ℕ) → g ≢ x.goal → kept' g ≡ kept g)
        (t'' : Known) (put : IsPut t' t'' x.goal (t.bound h) (t.choice h)) where
      agree : Agree rank' (rank' x.goal) kept kept'
      agree g l = rest g (λ e. omega (arith, l, ap rank' e))

      back : Agree rank' (rank' x.goal) kept' kept
      back g l = sym (agree g l)

      to_new : (g k : ℕ) → rank' g ≤ rank' x.goal → Matches old new form places kept g k → Matches old new form places kept' g k
      to_new g k l m = matches_agree old new rank' reaches' moves' form places kept kept' (rank' x.goal) g k l agree m

      to_old : (g k : ℕ) → rank' g ≤ rank' x.goal → Matches old new form places kept' g k → Matches old new form places kept g k
      to_old g k l m = matches_agree old new rank' reaches' moves' form places kept' kept (rank' x.goal) g k l back m

      exact_more : (j : ℕ) (y : Ranked) → j < i + 1 → slice_get order j ≡ Some y → kept' y.goal ≡ true ↔ ((k : ℕ) × Matches old new form places kept' y.goal k)
      exact_more j y l e = by_goal (cases_eq y.goal x.goal) where
        by_goal : (y.goal ≡ x.goal) ⊎ (y.goal ≡ x.goal → ⊥) → kept' y.goal ≡ true ↔ ((k : ℕ) × Matches old new form places kept' y.goal k)
        by_goal (inl s) = subst (λ g. kept' g ≡ true ↔ ((k : ℕ) × Matches old new form places kept' g k)) (sym s) ((λ k. (h, to_new x.goal h (omega arith) matches)), (λ m. set))
        by_goal (inr d) = (let before : j < i = earlier (cases_eq j i) in
            let was = carrying.exact j y before e in let lower = low j y (omega (arith, before)) e in
            ((λ k. (let (n, m) = was.0 (sym (rest y.goal d) ∙ k) in (n, to_new y.goal n lower m))), (λ m. rest y.goal d ∙ was.1 (m.0, to_old y.goal m.0 lower m.1)))) where
              earlier : (j ≡ i) ⊎ (j ≡ i → ⊥) → j < i
              earlier (inl s) = absurd (d (ap (λ (r : Ranked). r.goal) (some_goal y x (sym (subst (λ n. slice_get order n ≡ Some y) s e) ∙ at))))
              earlier (inr n) = omega (arith, l, n)

      from_more : (g : ℕ) → kept' g ≡ true → (j : ℕ) × (y : Ranked) × (j < i + 1) × (slice_get order j ≡ Some y) × (y.goal ≡ g)
      from_more g e = by_goal (cases_eq g x.goal) where
        by_goal : (g ≡ x.goal) ⊎ (g ≡ x.goal → ⊥) → (j : ℕ) × (y : Ranked) × (j < i + 1) × (slice_get order j ≡ Some y) × (y.goal ≡ g)
        by_goal (inl s) = (i, x, omega arith, at, sym s)
        by_goal (inr d) = (let (j, y, l, found, is) = carrying.from g (sym (rest g d) ∙ e) in (j, y, omega (arith, l), found, is))

      entry_more : (g k : ℕ) → KeptAs kept' places g k → (t''.bound g ≡ t.bound k) × (t''.choice g ≡ t.choice k)
      entry_more g k is = by_goal (cases_eq g x.goal) where
        by_goal : (g ≡ x.goal) ⊎ (g ≡ x.goal → ⊥) → (t''.bound g ≡ t.bound k) × (t''.choice g ≡ t.choice k)
        by_goal (inl s) = (let same : h ≡ k = some_is h k (sym matches.at ∙ subst (λ n. place places n ≡ Some k) s is.1) in
            subst (λ n. (t''.bound n ≡ t.bound k) × (t''.choice n ≡ t.choice k)) (sym s) (put.bound ∙ ap t.bound same, put.choice ∙ ap t.choice same))
        by_goal (inr d) = (let was : KeptAs kept places g k = (sym (rest g d) ∙ is.0, is.1) in ((put.others g d).0 ∙ carrying.bound g k was, (put.others g d).1 ∙ carrying.choice g k was))

      others_more : (g : ℕ) → kept' g ≡ false → (t''.bound g ≡ 0) × (t''.choice g ≡ None)
      others_more g e = by_goal (cases_eq g x.goal) where
        by_goal : (g ≡ x.goal) ⊎ (g ≡ x.goal → ⊥) → (t''.bound g ≡ 0) × (t''.choice g ≡ None)
        by_goal (inl s) = absurd (differ (sym (subst (λ n. kept' n ≡ true) (sym s) set) ∙ e))
        by_goal (inr d) = (let was = carrying.others g (sym (rest g d) ∙ e) in ((put.others g d).0 ∙ was.0, (put.others g d).1 ∙ was.1))

      pub carrying_more : Carrying old new form places t order (i + 1) kept' t''
      carrying_more = record { exact = exact_more; from = from_more; bound = λ g k is. (entry_more g k is).0; choice = λ g k is. (entry_more g k is).1; others = others_more }

  -- all goals were gone through
  pub carries_all : (n : ℕ) → length order ≤ n → (kept : ℕ → Bool) (t' : Known) → Carrying old new form places t order n kept t' → Carries old new form places t t' kept
  carries_all n long kept t' carrying = record { exact = exact_all; bound = carrying.bound; choice = carrying.choice; others = carrying.others } where
    exact_all : (g : ℕ) → kept g ≡ true ↔ ((h : ℕ) × Matches old new form places kept g h)
    exact_all g = (by_from, by_match) where
      by_from : kept g ≡ true → (h : ℕ) × Matches old new form places kept g h
      by_from e = (let (j, y, l, found, is) = carrying.from g e in
          subst (λ k. (h : ℕ) × Matches old new form places kept k h) is ((carrying.exact j y l found).0 (subst (λ k. kept k ≡ true) (sym is) e)))

      by_match : (h : ℕ) × Matches old new form places kept g h → kept g ≡ true
      by_match m = (let (j, l, is) = ranked.all g m.1.unfolded.0 in
          let found = get_at order j (record { rank = rank' g; goal = g }) l ∙ ap Some is in
          (carrying.exact j (record { rank = rank' g; goal = g }) (omega (arith, l, long)) found).1 m)
