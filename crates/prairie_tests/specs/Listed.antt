-- The table of moves that such data are.
use Rattle.std.specs.Prelude.{◌≡◌, ℕ, zero, suc, ◌-◌, ◌<◌, ◌==◌, Bool, true, List, length, slice_get}
use Rattle.std.specs.List.{list_any}
use Rattle.best_plan.specs.Moves.{Alternative, Graph, Gives}
use Rattle.prairie_tests.specs.declared.ways.Way.{Way}
use Rattle.prairie_tests.specs.Ways.{ways_of, as_alternative}

abbrev pub is_opened : List ℕ → ℕ → Bool
is_opened opened g = list_any (λ h. h == g) opened

abbrev pub alternative_of : List (List Way) → ℕ → ℕ → Alternative
alternative_of all g k = as_alternative (length all) g (slice_get (ways_of all g) k)

abbrev pub graph_of : List (List Way) → List ℕ → Graph
graph_of all opened = record {
  goals = length all;
  unfolded = is_opened opened;
  count = λ g. length (ways_of all g);
  alternative = alternative_of all;
}

abbrev pub rank_of : List (List Way) → ℕ → ℕ
rank_of all g = length all - g

-- within so many steps down
abbrev pub reaches_in : ℕ → List (List Way) → ℕ → ℕ → Type 0
reaches_in zero all g c = ⊥
reaches_in (suc f) all g c =
    (k : ℕ) × (k < length (ways_of all g)) × Gives (reaches_in f all) (alternative_of all g k) c

abbrev pub reaches_of : List (List Way) → ℕ → ℕ → Type 0
reaches_of all g c = reaches_in (length all - g) all g c

-- the goals are the same, and what was unfolded stays so
abbrev pub IsLater : List (List Way) → List (List Way) → List ℕ → List ℕ → Type 0
IsLater before after opened opened' =
    (after ≡ before) × ((g : ℕ) → is_opened opened g ≡ true → is_opened opened' g ≡ true)
