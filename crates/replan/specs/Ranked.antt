-- Goals in the order of their ranks.
use Rattle.std.specs.Prelude.{◌≡◌, ℕ, ◌<◌, List}
use Rattle.std.specs.List.{Contains}
use Rattle.std.specs.List.Sorted.{IsNonDecreasingBy}
use Rattle.replan.specs.declared.ranked.Ranked.{Ranked}

-- the goals from 0 to the number, each with its rank, in the order of ranks
pub record AreRanked (goals : ℕ) (rank : ℕ → ℕ) (rs : List Ranked) : Type 0 where
  pub all : (g : ℕ) → g < goals → Contains rs (record { rank = rank g; goal = g })
  pub only : (r : Ranked) → Contains rs r → (r.goal < goals) × (r.rank ≡ rank r.goal)
  pub rises : IsNonDecreasingBy (λ r. r.rank) rs
