use Rattle.std.proofs.Common.{ℕ, ◌≤◌, take, sym, ◌∙◌, subst}
use Rattle.std.specs.List.{AllByRecursion}
use Rattle.pr_value.specs.Capped.{cap}
use Rattle.k_best.proofs.ListedLaws.{costs_capped}
use Rattle.k_best.proofs.inputs.cost_of.Goals as goal

pub cost-requires-2-clause-capped : goal.cost-requires-2-clause-capped
cost-requires-2-clause-capped g c =
    subst (AllByRecursion (λ (x : ℕ). x ≤ cap)) (sym (c.deref.ensures.value ∙ c.loop-at.invariant))
    (costs_capped c.args.lists.now.solutions c.requires.capped (take c.loop-at.at-index c.args.inputs.now))
