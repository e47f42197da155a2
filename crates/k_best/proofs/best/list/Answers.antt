use Rattle.std.proofs.Common.{List, sym, subst, arith}
use Rattle.best_plan.specs.declared.solution.Solution.{Solution}
use Rattle.k_best.specs.Picks.{ArePicks, AreChosen}
use Rattle.k_best.proofs.ChoiceLaws.{picks_in}
use Rattle.k_best.proofs.ChooseLaws.{chosen_best}
use Rattle.k_best.proofs.best.list.Goals as goal

pub chosen_from-requires-clause-pool : goal.chosen_from-requires-clause-pool
chosen_from-requires-clause-pool g c =
    subst (ArePicks (g.M.Choices.graph c.args.moves.now) c.args.lists.now c.args.goal) (sym c.as_slice.ensures) c.in_ok-pool.ensures.picks

pub put-requires : goal.put-requires
put-requires g c =
    let m = g.M.Choices.graph c.args.moves.now in let face = g.M.Faces.face c.args.moves.now in let l = c.args.lists.now in
    let pool = c.in_ok-pool.pool in let chosen = c.in_ok-chosen.chosen in
    let are = subst (λ (xs : List Solution). AreChosen face c.args.most l xs chosen) c.as_slice.ensures c.in_ok-chosen.ensures in
    record {
      right = c.requires.right;
      place = omega (arith, c.requires.room, c.requires.unfolded.0);
      picks = picks_in m l c.args.goal chosen pool are.choice.from c.in_ok-pool.ensures.picks;
      done = c.requires.done;
      best = chosen_best m face c.args.most l c.requires.right c.args.goal pool chosen are (omega (arith, c.requires.some)) c.requires.done c.in_ok-pool.ensures.each;
    }
