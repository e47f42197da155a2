use Rattle.std.proofs.Common.{◌≡◌, ◌++◌, take}
use Rattle.plan_form.specs.PlanText.{all_shown}
use Rattle.plan_form.proofs.text.push_all_shown.Given as goal

abbrev pub invariant-loop-place : goal.invariant-loop-place
invariant-loop-place l = l.out ≡ l.initial.out ++ all_shown (take l.place l.properties) l.desc
