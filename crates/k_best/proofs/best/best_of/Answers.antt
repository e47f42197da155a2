use Rattle.std.proofs.Common.{sym, subst}
use Rattle.k_best.specs.Lists.{IsListed}
use Rattle.k_best.proofs.ListedLaws.{listed_at}
use Rattle.k_best.proofs.BestLaws.{best_list, none_right_at}
use Rattle.k_best.proofs.best.best_of.Goals as goal

pub returns-clause-best : goal.returns-clause-best
returns-clause-best g c =
    let m = g.M.Choices.graph c.args.moves.now in let face = g.M.Faces.face c.args.moves.now in let l = c.visit.new.lists in let p = c.span.result in
    best_list m face c.args.most l.solutions c.args.goal p c.in_ok-chosen.chosen
    (subst (IsListed m face c.args.most l.solutions c.args.goal) (sym c.span.ensures) (listed_at m face c.args.most l c.in_ok-visit.ensures.right c.args.goal c.in_ok-visit.ensures.done))
    c.in_ok-chosen.ensures.long c.in_ok-chosen.ensures.each

pub visit-requires-clause-right : goal.visit-requires-clause-right
visit-requires-clause-right g c =
    let m = g.M.Choices.graph c.args.moves.now in let are = c.in_ok-lists.ensures in
    none_right_at m (g.M.Faces.face c.args.moves.now) c.args.most c.goals.result c.in_ok-lists.lists are.solutions are.labels are.spans are.marks are.before are.heads
