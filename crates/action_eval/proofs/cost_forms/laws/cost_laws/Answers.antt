use Rattle.action_eval.proofs.CostLaws.{cost_rises, cost_in_cap}
use Rattle.action_eval.proofs.cost_forms.laws.cost_laws.Goals as goal

pub returns : goal.returns
returns c = record { never_falls = cost_rises; at_most_cap = cost_in_cap }
