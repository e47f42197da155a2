use Rattle.std.proofs.Common.{ℕ, ◌<◌}
use Rattle.k_best.specs.Picks.{ArePicks, HasCheapest}
use Rattle.k_best.proofs.best.pool_of.Given as goal

abbrev pub invariant-loop-k : goal.invariant-loop-k
invariant-loop-k g l =
    let m = g.M.Choices.graph l.moves in record {
      picks : ArePicks m l.lists l.goal l.pool;
      each : (k : ℕ) → k < l.k → HasCheapest m (g.M.Faces.face l.moves) l.most l.lists l.goal l.pool k;
    }
