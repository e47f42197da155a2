use Rattle.std.proofs.Common.{sym, subst, ◌<◌}
use Rattle.pr_value.specs.Capped.{cap}
use Rattle.best_plan.specs.Tables.{known}
use Rattle.best_plan.proofs.BoundLaws.{past_at}
use Rattle.best_plan.proofs.costs.is_past_cap.Goals as goal

pub returns-then-bound-gt-CAP : goal.returns-then-bound-gt-CAP
returns-then-bound-gt-CAP g c =
    sym (past_at (known c.args.table.now) ((g.M.Choices.graph c.args.moves.now).alternative c.args.goal c.args.k).inputs c.loop-i.i c.input.result c.input.ensures
    (subst (λ x. cap < x) c.bound.ensures.is c.if-bound-gt-CAP.true))
