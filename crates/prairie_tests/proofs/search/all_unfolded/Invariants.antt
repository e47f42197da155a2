use Rattle.std.proofs.Common.{◌≡◌, ℕ, ◌<◌, true}
use Rattle.prairie_tests.specs.Listed.{is_opened}
use Rattle.prairie_tests.proofs.search.all_unfolded.Given as goal

abbrev pub invariant-loop-goal : goal.invariant-loop-goal
invariant-loop-goal l = (g : ℕ) → g < l.goal → is_opened l.moves.opened.items g ≡ true
