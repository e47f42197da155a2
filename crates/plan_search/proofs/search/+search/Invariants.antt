use Rattle.std.proofs.Common.{◌+◌, ◌*◌, map, option_map, take}
use Rattle.descriptor_types.specs.Labels.{seen_tree}
use Rattle.plan_form.specs.Plans.{seen_plan}
use Rattle.plan_search.specs.Found.{AreFound}
use Rattle.plan_search.specs.Search.{AllBest, IsBestBelow}
use Rattle.pr_value.specs.Trees.{height, highest, trees_of}
use Rattle.rule_ast.specs.SeenRules.{seen_rules}
use Rattle.plan_search.proofs.search.+search.Given as goal

-- each tree that is asked for is lower than the one that asks
abbrev pub decreases-best : goal.decreases-best
decreases-best l = 4 * height (seen_tree l.t.now) + 3

abbrev pub decreases-cheapest : goal.decreases-cheapest
decreases-cheapest l = 4 * height (seen_tree l.t.now) + 2

abbrev pub decreases-best_by : goal.decreases-best_by
decreases-best_by l = 4 * height (seen_tree l.t.now) + 1

abbrev pub decreases-all_best : goal.decreases-all_best
decreases-all_best l = 4 * highest (trees_of (map seen_tree l.trees.now)) + 4

-- the cheapest so far is that below the next rule
abbrev pub invariant-cheapest-loop-rule : goal.invariant-cheapest-loop-rule
invariant-cheapest-loop-rule l =
    IsBestBelow (seen_rules l.under.accepted.now.rules) l.under.catalog.now (seen_tree l.t) l.rule (option_map seen_plan l.best)
    × AreFound (seen_rules l.under.accepted.now.rules) l.under.catalog.now l.found

-- the plans so far are best
abbrev pub invariant-all_best-loop-tree : goal.invariant-all_best-loop-tree
invariant-all_best-loop-tree l =
    AllBest (seen_rules l.under.accepted.now.rules) l.under.catalog.now (map seen_tree (take l.tree-index l.trees)) (map seen_plan l.plans)
    × AreFound (seen_rules l.under.accepted.now.rules) l.under.catalog.now l.found
