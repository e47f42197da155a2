-- Which goals a goal leads to.
use Rattle.std.specs.Prelude.{◌≡◌, ℕ, List, [], ◌∷◌}
use Rattle.std.specs.List.{Contains}
use Rattle.best_plan.specs.Moves.{Graph, IsAlternative}

-- an input of an alternative of the goal
abbrev pub IsInputOf : Graph → ℕ → ℕ → Type 0
IsInputOf m g h = (k : ℕ) × IsAlternative m g k × Contains (m.alternative g k).inputs h

-- from the first goal each next one is an input of the one before, up to the last goal
abbrev pub IsChain : Graph → ℕ → List ℕ → ℕ → Type 0
IsChain m g [] last = g ≡ last
IsChain m g (h ∷ hs) last = IsInputOf m g h × IsChain m h hs last

-- inputs, and inputs of inputs, and so on; the root leads to itself
abbrev pub Leads : Graph → ℕ → ℕ → Type 0
Leads m root g = (hs : List ℕ) × IsChain m root hs g
