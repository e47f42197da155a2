use Rattle.std.proofs.Common.{◌≡◌, ◌++◌, map, take}
use Rattle.pr_value.specs.Trees.{trees_of}
use Rattle.rule_ast.specs.SeenRules.{seen_rules}
use Rattle.plan_form.specs.Plans.{seen_plan}
use Rattle.plan_form.specs.PlanText.{inputs_text}
use Rattle.plan_form.proofs.text.+text.Given as goal

abbrev pub invariant-push_inputs-loop-plan : goal.invariant-push_inputs-loop-plan
invariant-push_inputs-loop-plan l = l.out ≡ l.initial.out ++ inputs_text (seen_rules l.rules) l.indent (trees_of (map seen_plan (take l.plan-index l.plans)))
