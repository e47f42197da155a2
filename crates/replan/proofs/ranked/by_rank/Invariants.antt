use Rattle.std.proofs.Common.{◌≡◌, ℕ, ◌<◌, Contains}
use Rattle.replan.specs.declared.ranked.Ranked.{Ranked}
use Rattle.replan.proofs.ranked.by_rank.Given as goal

-- the goals so far
abbrev pub invariant-loop-goal : goal.invariant-loop-goal
invariant-loop-goal g l = record {
  all : (h : ℕ) → h < l.goal → Contains l.goals.items (record { rank = g.M.Moves.rank l.moves h; goal = h });
  only : (r : Ranked) → Contains l.goals.items r → (r.goal < l.goal) × (r.rank ≡ g.M.Moves.rank l.moves r.goal);
}
