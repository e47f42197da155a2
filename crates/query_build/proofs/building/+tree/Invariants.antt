use Rattle.std.proofs.Common.{◌≡◌, map, take}
use Rattle.descriptor_types.specs.Labels.{seen_tree}
use Rattle.pr_value.specs.Trees.{trees_of}
use Rattle.query_build.specs.Query.{query_tree}
use Rattle.rule_trees.specs.Trees.{AreTrees}
use Rattle.rule_ast.specs.Seen.{seen_query}
use Rattle.rule_ast.specs.SeenRules.{seen_rules}
use Rattle.query_build.proofs.building.+tree.Given as goal

-- the trees so far
abbrev pub invariant-all_trees-loop-query : goal.invariant-all_trees-loop-query
invariant-all_trees-loop-query l =
    (map seen_tree l.trees
    ≡ map (λ q. query_tree (seen_rules l.under.rules.now) l.under.catalog.now (seen_query q)) (take l.query-index l.queries))
    × AreTrees (seen_rules l.under.rules.now) l.under.catalog.now (trees_of (map seen_tree l.trees))
