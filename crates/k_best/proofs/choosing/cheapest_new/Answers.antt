use Rattle.std.proofs.Common.{◌≡◌, ℕ, length, subst, arith}
use Rattle.k_best.specs.Picks.{IsCheapestNew}
use Rattle.k_best.proofs.choosing.cheapest_new.Goals as goal

pub returns : goal.returns
returns g c =
    let all : c.loop-i.i ≡ length c.args.pool.now = omega arith in
    subst (λ (n : ℕ). IsCheapestNew (g.M.Faces.face c.args.moves.now) c.args.lists.now c.args.pool.now c.args.chosen.now n c.loop-i.best) all c.loop-i.invariant
