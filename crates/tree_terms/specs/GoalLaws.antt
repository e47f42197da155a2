-- Laws of the goals of a query.
use Rattle.std.specs.Prelude.{◌≡◌, true}
use Rattle.pr_value.specs.Trees.{Tree}
use Rattle.catalog.specs.Contents.{Catalog}
use Rattle.descriptor_types.specs.Descriptors.{Desc, fits}
use Rattle.descriptor_types.specs.Labels.{Label}
use Rattle.rule_ast.specs.Syntax.{Rules}
use Rattle.tree_terms.specs.Goals.{Goal, SameGoal}
use Rattle.rule_trees.specs.Trees.{IsTree}

module _ (r : Rules) (c : Catalog) where
  -- each goal is of a tree of the rules, with a value of its kind for each property
  abbrev pub GoalsAreTrees : Type 0
  GoalsAreTrees =
      (q t : Tree Label) (v : Desc) → IsTree r c q → Goal r c q t v
      → IsTree r c t × (fits r.properties v ≡ true)

  -- which goals are the same does not depend on their order
  abbrev pub SameGoalTurns : Type 0
  SameGoalTurns = (q : Tree Label) (g h : Tree Label × Desc) → SameGoal r c q g h → SameGoal r c q h g

  -- goals that are the same as a third are the same
  abbrev pub SameGoalChains : Type 0
  SameGoalChains =
      (q : Tree Label) (g h k : Tree Label × Desc) → SameGoal r c q g h → SameGoal r c q h k
      → SameGoal r c q g k
