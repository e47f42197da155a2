use Rattle.plan_form.proofs.CostLaws.{cost_placed}
use Rattle.plan_form.proofs.costing.cost_place.Goals as goal

pub returns : goal.returns
returns c = cost_placed c.args.rules.now.properties c.as_slice-properties.result.now c.cost_name-name.result.now c.first_named.result c.as_slice-properties.ensures c.cost_name-name.ensures c.first_named.ensures
