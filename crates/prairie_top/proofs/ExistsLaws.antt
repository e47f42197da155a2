-- Under accepted rules each query that builds a tree has a best plan, or none at all.
use Rattle.std.proofs.Common.{◌≡◌, Option, Some, None, refl}
use Rattle.plan_form.specs.Plans.{Plan, IsAnswer, cost}
use Rattle.plan_search.proofs.ExistsLaws.{answer_exists, one_answer}
use Rattle.plan_form.specs.PlanText.{plan_text}
use Rattle.query_build.specs.Query.{query_tree}
use Rattle.prairie_top.specs.Outcome.{Outcome, planned, unplanned, IsOutcome, outcome_status}
use Rattle.prairie_top.specs.Laws.{OneCost, OneExists}
use Rattle.prairie_top.proofs.BuiltLaws.{built-tree}
use Rattle.prairie_top.proofs.ChainLaws.{some_is}
use Rattle.prairie_top.proofs.LawLemmas.{one_outcome}

pub one_exists : OneExists
one_exists r c q spelled accepted builds = by_answer (answer_exists r c (query_tree r c q) spelled accepted (built-tree r c q accepted builds)) where
  by_answer : ((o : Option Plan) × IsAnswer r c (query_tree r c q) o) → (o : Outcome) × IsOutcome r c q o × ((other : Outcome) → IsOutcome r c q other → outcome_status other ≡ outcome_status o)
  by_answer (Some p, best) = (planned p (plan_text r p), (best, refl), λ other h. one_outcome r c q other (planned p (plan_text r p)) h (best, refl))
  by_answer (None, none) = (unplanned, none, λ other h. one_outcome r c q other unplanned h none)

pub one_cost : OneCost
one_cost r c q p other text text' best best' = some_is (cost r p) (cost r other) (one_answer r c (query_tree r c q) (Some p) (Some other) best.0 best'.0)
