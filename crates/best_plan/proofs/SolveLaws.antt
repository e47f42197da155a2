-- The steps of the plain search.
use Rattle.std.proofs.Common.{◌≡◌, ℕ, zero, suc, ◌+◌, ◌≤◌, ◌<◌, List, length, Option, Some, None, refl, ap, sym, ◌∙◌, subst, arith, inl, inr}
use Rattle.std.specs.Prelude.{◌⊎◌, ⊤, slice_set}
use Rattle.pr_value.specs.Capped.{cap}
use Rattle.best_plan.specs.declared.table.Entry.{Entry}
use Rattle.best_plan.specs.Moves.{Graph, IsUnfolded, Reaches, IsLeast, AreChoices, AreMoves, Extends, KeepsAnswers}
use Rattle.best_plan.specs.Tables.{Known, known, HoldsSolution, at_bounds, IsRight, KeepsUpper, Leaves, IsDecided}
use Rattle.best_plan.specs.Answers.{Stands, IsLeastOrPast}
use Rattle.best_plan.proofs.BoundLaws.{at_rises}
use Rattle.best_plan.proofs.RightLaws.{IsPut, put_is, leaves_on, solution_is_least, is_some_at}

pub ext_refl : (m : Graph) → Extends m m
ext_refl m = record { goals = omega arith; unfolded = λ g e. e; count = λ g e. refl; alternative = λ g k e. refl }

pub same_refl : (m : Graph) (rank : ℕ → ℕ) (reaches : Reaches) → KeepsAnswers m rank rank reaches reaches
same_refl m rank reaches = record { ranks = λ g h. refl; costs = λ g c h. (λ r. r, λ r. r) }

pub leaves_two : (m : Graph) (rank : ℕ → ℕ) (reaches : Reaches) (es es' es'' : List Entry) (g : ℕ) → g < m.goals
    → Leaves ⊤ m reaches es es' (KeepsUpper m rank (known es) (known es') g) → Leaves ⊤ m reaches es' es'' (KeepsUpper m rank (known es') (known es'') g)
    → Leaves ⊤ m reaches es es'' (KeepsUpper m rank (known es) (known es'') g)
leaves_two m rank reaches es es' es'' g there a b =
    leaves_on ⊤ ⊤ ⊤ m m m rank rank reaches reaches reaches es es' es'' g (λ u v. tt) (ext_refl m) (same_refl m rank reaches) there a b

pub held_of : (t : Known) (g v : ℕ) → IsDecided t g → t.bound g ≡ v → v ≤ cap → HoldsSolution t g
held_of t g v (inl h) e l = h
held_of t g v (inr b) e l = absurd (omega (arith, b, e))

pub least_or_past : (m : Graph) (reaches : Reaches) (t : Known) (right : IsRight m reaches t) (rank : ℕ → ℕ) (moves : AreMoves m rank reaches) (g v : ℕ) → IsDecided t g → t.bound g ≡ v → IsLeastOrPast reaches g v
least_or_past m reaches t right rank moves g v (inl h) e = inl (subst (IsLeast reaches g) e (solution_is_least m reaches t right rank moves g h))
least_or_past m reaches t right rank moves g v (inr b) e = inr (sym e ∙ b, λ c r. omega (arith, right.low g c r, moves.capped g c r, b))

decided_put : (m : Graph) (t t' : Known) (g v : ℕ) (c : Option ℕ) → v ≤ cap + 1 → IsPut t t' g v c → Stands m t g (cap + 1) v c → IsDecided t' g
decided_put m t t' g v None low put s = inr (omega (arith, put.bound, s, low))
decided_put m t t' g v (Some k) low put s = inl (is_some_at (t'.choice g) k put.choice)

pub decided_of : (m : Graph) (es es' : List Entry) (g v : ℕ) (c : Option ℕ) → v ≤ cap + 1 → g < length es → es' ≡ slice_set es g (record { bound = v; choice = c }) → Stands m (known es) g (cap + 1) v c → IsDecided (known es') g
decided_of m es es' g v c low room is_put s =
    decided_put m (known es) (known es') g v c low (subst (λ (ds : List Entry). IsPut (known es) (known ds) g v c) (sym is_put) (put_is es g (record { bound = v; choice = c }) room)) s

lt_or_eq : (j i : ℕ) → j < i + 1 → (j < i) ⊎ (j ≡ i)
lt_or_eq j zero h = inr (omega arith)
lt_or_eq zero (suc i) h = inl (omega arith)
lt_or_eq (suc j) (suc i) h = elim (lt_or_eq j i (omega arith)) [ inl l ↦ inl (omega arith) | inr e ↦ inr (ap suc e) ]

-- one more alternative costs at least the best
pub past_more : (m : Graph) (laws : AreChoices m) (g k : ℕ) (o : IsUnfolded m g) (t t' : Known) (v v' : ℕ) → k < m.count g → ((i : ℕ) → t.bound i ≤ t'.bound i) → v' ≤ v
    → ((j : ℕ) → j < k → v ≤ at_bounds t (m.alternative g j)) → v' ≤ at_bounds t' (m.alternative g k) → (j : ℕ) → j < k + 1 → v' ≤ at_bounds t' (m.alternative g j)
past_more m laws g k o t t' v v' l r le past here j h = by_order (lt_or_eq j k h) where
  by_order : (j < k) ⊎ (j ≡ k) → v' ≤ at_bounds t' (m.alternative g j)
  by_order (inl b) = omega (arith, past j b, at_rises m laws g j (o.0, o.1, omega arith) t t' r)
  by_order (inr e) = subst (λ i. v' ≤ at_bounds t' (m.alternative g i)) (sym e) here
