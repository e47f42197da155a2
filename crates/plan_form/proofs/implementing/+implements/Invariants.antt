use Rattle.std.proofs.Common.{map, take}
use Rattle.descriptor_types.specs.Labels.{seen_tree}
use Rattle.pr_value.specs.Trees.{trees_of}
use Rattle.rule_ast.specs.SeenRules.{seen_rules}
use Rattle.plan_form.specs.Plans.{AllImplement, seen_plan}
use Rattle.plan_form.proofs.implementing.+implements.Given as goal

-- those so far implement the trees at their places
abbrev pub invariant-all_implement-loop-i : goal.invariant-all_implement-loop-i
invariant-all_implement-loop-i l = AllImplement (seen_rules l.a.rules) l.catalog (trees_of (take l.i (map seen_plan l.plans))) (take l.i (map seen_tree l.trees))
