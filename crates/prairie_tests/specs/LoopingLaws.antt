-- The laws of choices, for such data.
use Rattle.std.specs.Prelude.{ℕ, ◌≤◌, ◌<◌, List, [], ◌∷◌, length, map, take, min, Option, Some, None, slice_get, refl}
use Rattle.std.specs.List.{AllByRecursion}
use Rattle.std.proofs.Common.{arith, sym, subst}
use Rattle.pr_value.specs.Capped.{cap}
use Rattle.best_plan.specs.Moves.{AllLe, AreChoices, Extends}
use Rattle.prairie_tests.specs.declared.ways.Way.{Way}
use Rattle.prairie_tests.specs.Ways.{ways_of}
use Rattle.prairie_tests.specs.Laws.{joined_le, joined_capped, take_four}
use Rattle.prairie_tests.specs.Listed.{IsLater}
use Rattle.prairie_tests.specs.Looping.{goal_at, as_looping, looping_of}

map_there : (n : ℕ) (is : List ℕ) → 0 < n → AllByRecursion (λ i. i < n) (map (goal_at n) is)
map_there n [] l = tt
map_there n (i ∷ is) l = (omega (arith, l), map_there n is l)

inputs_there : (n : ℕ) (o : Option Way) → 0 < n → AllByRecursion (λ i. i < n) (as_looping n o).inputs
inputs_there n None l = tt
inputs_there n (Some way) l = map_there n (take 4 way.inputs) l

rises : (n : ℕ) (o : Option Way) (xs ys : List ℕ) → AllLe xs ys → (as_looping n o).cost xs ≤ (as_looping n o).cost ys
rises n None xs ys h = omega arith
rises n (Some way) xs ys h = joined_le way.kind (min way.from cap) (min way.from cap) xs ys (omega arith) h

capped : (n : ℕ) (o : Option Way) (xs : List ℕ) → (as_looping n o).cost xs ≤ cap
capped n None xs = omega arith
capped n (Some way) xs = joined_capped way.kind (min way.from cap) xs (omega arith)

few : (n : ℕ) (o : Option Way) → length (as_looping n o).inputs ≤ 4
few n None = omega arith
few n (Some way) = take_four way.inputs (goal_at n)

pub looping_choices : (all : List (List Way)) (opened : List ℕ) → AreChoices (looping_of all opened)
looping_choices all opened = record {
  inputs_there = λ g k is. inputs_there (length all) (slice_get (ways_of all g) k) (omega (arith, is.0));
  rising = λ g k low high is h. rises (length all) (slice_get (ways_of all g) k) low high h;
  bounded = λ g k costs is h. capped (length all) (slice_get (ways_of all g) k) costs;
  few_inputs = λ g k is. few (length all) (slice_get (ways_of all g) k);
}

pub looping_grows : (a b : List (List Way)) (o p : List ℕ) → IsLater a b o p → Extends (looping_of a o) (looping_of b p)
looping_grows a b o p h = subst (λ d. Extends (looping_of a o) (looping_of d p)) (sym h.0) (record { goals = omega arith; unfolded = h.1; count = λ g e. refl; alternative = λ g k e. refl })
