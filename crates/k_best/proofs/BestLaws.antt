-- No lists at first, and the goal's list at last.
use Rattle.std.proofs.Common.{◌≡◌, ℕ, zero, suc, ◌+◌, ◌*◌, ◌≤◌, ◌<◌, List, [], ◌∷◌, length, map, replicate, Option, Some, None, refl, ap, sym, ◌∙◌, subst, arith}
use Rattle.std.specs.Prelude.{slice_get}
use Rattle.std.specs.List.{AllByRecursion}
use Rattle.std.specs.Option.{option_map}
use Rattle.std.proofs.lemmas.Option.{slice_get-map}
use Rattle.best_plan.specs.declared.solution.Solution.{Solution}
use Rattle.best_plan.specs.Moves.{Graph}
use Rattle.best_plan.specs.Solutions.{SolvesAt}
use Rattle.k_best.specs.declared.lists.Span.{Span}
use Rattle.k_best.specs.declared.index.Index.{Index}
use Rattle.k_best.specs.declared.lists.Lists.{Lists}
use Rattle.k_best.specs.Indexes.{IsIndexed}
use Rattle.k_best.proofs.IndexLaws.{none_indexed_at}
use Rattle.k_best.specs.Showings.{shown_in, shown, shown_at}
use Rattle.k_best.specs.BestLists.{IsShown, IsBest, IsBestList}
use Rattle.k_best.specs.Lists.{span_of, IsListed, AreRight}
use Rattle.k_best.proofs.PutLaws.{best_same}
use Rattle.k_best.proofs.ListLaws.{none_some}

no_entry : (n g : ℕ) (p : Span) → span_of (slice_get (replicate n None) g) ≡ Some p → ⊥
no_entry zero g p e = none_some p e
no_entry (suc n) zero p e = none_some p e
no_entry (suc n) (suc g) p e = no_entry n g p e

none_right : (m : Graph) (face : ℕ → ℕ → ℕ) (most n : ℕ) (index : Index) → index.marks ≡ [] → IsIndexed [] index → AreRight m face most (record { solutions = []; labels = []; spans = replicate n None; index = index })
none_right m face most n index none indexed = record {
  sound = λ at s e. absurd (none_some s e);
  capped = λ at. omega arith;
  short = omega arith;
  long = refl;
  labelled = record { low = λ at h. absurd (omega (arith, h)); same = λ a b al bl. absurd (omega (arith, al)) };
  marked = ap length none;
  indexed = indexed;
  listed = λ g p e. absurd (no_entry n g p e);
}

pub none_right_at : (m : Graph) (face : ℕ → ℕ → ℕ) (most n : ℕ) (l : Lists) → l.solutions ≡ [] → l.labels ≡ [] → l.spans ≡ replicate n None
    → l.index.marks ≡ [] → l.index.before ≡ [] → l.index.heads ≡ replicate (n * 16 + 1) None → AreRight m face most l
none_right_at m face most n l es el ep em eb eh =
    subst (λ (xs : List Solution). AreRight m face most (record { solutions = xs; labels = l.labels; spans = l.spans; index = l.index })) (sym es)
    (subst (λ (xs : List ℕ). AreRight m face most (record { solutions = []; labels = xs; spans = l.spans; index = l.index })) (sym el)
    (subst (λ (xs : List (Option Span)). AreRight m face most (record { solutions = []; labels = []; spans = xs; index = l.index })) (sym ep)
    (none_right m face most n l.index em (none_indexed_at [] (n * 16) l.index em eh eb))))

places_solve : (ss : List Solution) (g start : ℕ) (chosen : List ℕ) → ((i : ℕ) → i < length chosen → slice_get chosen i ≡ Some (start + i))
    → ((at : ℕ) → start ≤ at → at < start + length chosen → SolvesAt ss g at) → AllByRecursion (SolvesAt ss g) chosen
places_solve ss g start [] each solves = tt
places_solve ss g start (at ∷ ats) each solves = (first, places_solve ss g (suc start) ats (λ i h. each (suc i) (omega (arith, h)) ∙ ap Some (place i)) (λ at low high. solves at (omega (arith, low)) (omega (arith, high)))) where
  place : (i : ℕ) → start + suc i ≡ suc start + i
  place i = omega arith

  some_is : (a b : ℕ) → Some a ≡ Some b → a ≡ b
  some_is a b e = cc

  first : SolvesAt ss g at
  first = let same = some_is at (start + 0) (each 0 (omega arith)) in subst (SolvesAt ss g) (sym same) (solves (start + 0) (omega arith) (omega arith))

-- the places of a goal's list are a best list
pub best_list : (m : Graph) (face : ℕ → ℕ → ℕ) (most : ℕ) (ss : List Solution) (g : ℕ) (p : Span) (chosen : List ℕ) → IsListed m face most ss g p
    → length chosen ≡ p.count → ((i : ℕ) → i < p.count → slice_get chosen i ≡ Some (p.start + i)) → IsBestList m face g most ss chosen
best_list m face most ss g p chosen listed long each = record {
  solve = places_solve ss g p.start chosen (λ i h. each i (omega (arith, h, long))) (λ at low high. listed.solves at (low, omega (arith, high, long)));
  best = best_same (IsShown m face g) most (length chosen) (λ i. shown_at (shown face ss) (p.start + i)) (shown_at (map (shown_at (shown face ss)) chosen))
      (λ i h. sym (ap shown_in (slice_get-map (shown_at (shown face ss)) chosen i ∙ ap (option_map (shown_at (shown face ss))) (each i (omega (arith, h, long))))))
      (subst (λ n. IsBest (IsShown m face g) most n (λ i. shown_at (shown face ss) (p.start + i))) (sym long) listed.best);
}
