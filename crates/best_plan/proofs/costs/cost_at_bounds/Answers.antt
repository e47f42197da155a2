use Rattle.std.proofs.Common.{sym, ◌∙◌}
use Rattle.best_plan.specs.Tables.{known}
use Rattle.best_plan.proofs.BoundLaws.{capped_of}
use Rattle.best_plan.proofs.costs.cost_at_bounds.Goals as goal

pub cost-requires-clause-capped : goal.cost-requires-clause-capped
cost-requires-clause-capped g c =
    capped_of (known c.args.table.now) ((g.M.Choices.graph c.args.moves.now).alternative c.args.goal c.args.k).inputs c.bounds_of-bounds.result c.input_count-n.result
    (sym c.is_past_cap.ensures ∙ c.if-is_past_cap.false) c.input_count-n.ensures c.bounds_of-bounds.ensures.bounds
