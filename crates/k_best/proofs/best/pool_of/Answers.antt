use Rattle.k_best.proofs.ChoiceLaws.{picks_append, pool_more}
use Rattle.k_best.proofs.best.pool_of.Goals as goal

pub loop-k-preserved : goal.loop-k-preserved
loop-k-preserved g c =
    let m = g.M.Choices.graph c.args.moves.now in let l = c.args.lists.now in let inv = c.loop-k.invariant in
    let pool = c.loop-k.pool in let taken = c.in_ok-taken.taken in let are = c.in_ok-taken.ensures in
    rw c.in_ok-append.ensures (record {
      picks = picks_append m l c.args.goal pool taken inv.picks are.taken.picks;
      each = pool_more m (g.M.Faces.face c.args.moves.now) c.args.most l c.args.goal pool taken c.loop-k.k inv.each are.taken are.cheapest;
    })
