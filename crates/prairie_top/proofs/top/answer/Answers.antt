use Rattle.std.proofs.Common.{List, ℕ, ap, ◌∙◌, ◌++◌, refl}
use Rattle.prairie_top.specs.Messages.{usage_text}
use Rattle.prairie_top.specs.Outcome.{known, unknown}
use Rattle.prairie_top.specs.Tasks.{seen_task}
use Rattle.prairie_top.proofs.top.answer.Goals as goal

pub returns-in_ok-came-in-Some-clause-comes : goal.returns-in_ok-came-in-Some-clause-comes
returns-in_ok-came-in-Some-clause-comes g c = known (seen_task c.in-Some.task) c.in-Some.ensures c.in_ok-came-in-Some.ensures.comes

pub returns-in_ok-push_bytes-in-None-clause-comes : goal.returns-in_ok-push_bytes-in-None-clause-comes
returns-in_ok-push_bytes-in-None-clause-comes g c =
    unknown c.in-None.ensures refl refl (c.in_ok-push_bytes-in-None.ensures.ok ∙ ap (λ (t : List ℕ). t ++ usage_text) c.requires)
