use Rattle.std.proofs.Common.{◌≡◌, take}
use Rattle.plan_form.proofs.plan.+copy_plan.Given as goal

abbrev pub invariant-copy_plans-loop-plan : goal.invariant-copy_plans-loop-plan
invariant-copy_plans-loop-plan l = l.copies.items ≡ take l.plan-index l.plans
