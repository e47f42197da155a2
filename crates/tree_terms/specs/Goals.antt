-- The goals of a query: trees, and the physical values that are asked of them.
use Rattle.std.specs.Prelude.{◌≡◌, ℕ, ◌+◌, List, length, All, AllPairs, Some, slice_get}
use Rattle.pr_value.specs.Trees.{Tree}
use Rattle.action_eval.specs.Cost.{IStep}
use Rattle.catalog.specs.Contents.{Catalog}
use Rattle.descriptor_types.specs.Descriptors.{Desc, only}
use Rattle.descriptor_types.specs.Labels.{Label, desc_of, ask}
use Rattle.rule_ast.specs.Syntax.{Rules}
use Rattle.tree_terms.specs.Equality.{Equal}
use Rattle.rule_trees.specs.Steps.{i_step, i_stream_tree}
use Rattle.rule_trees.specs.Views.{physical}

-- the physical values of a descriptor, with the default of each other property
abbrev pub physical_in : Rules → Desc → Desc
physical_in r = only r.properties (physical r)

-- the tree with these physical values asked of it
abbrev pub asked_of_tree : Rules → Desc → Tree Label → Tree Label
asked_of_tree r = ask (physical r)

module _ (r : Rules) (c : Catalog) (q : Tree Label) where
  -- the query with its own physical values; and where an I-rule applies to a tree that is equal to
  -- a goal's, each tree that a stream of the rule stands for, with what is asked of it
  pub data Goal : Tree Label → Desc → Type 0 where
    root : Goal q (physical_in r (desc_of q))
    below : {t u w : Tree Label} {v asked : Desc} (n i : ℕ) (s : IStep) → Goal t v
        → Equal r c q t u → i_step r c n (asked_of_tree r v u) ≡ Some s
        → i_stream_tree r n i (asked_of_tree r v u) ≡ Some w → slice_get s.asked i ≡ Some asked → Goal w asked

  -- equal trees with the same values
  abbrev pub SameGoal : Tree Label × Desc → Tree Label × Desc → Type 0
  SameGoal g h = Equal r c q g.0 h.0 × (g.1 ≡ h.1)

  -- there are more than n goals, no two the same
  abbrev pub GoalsOver : ℕ → Type 0
  GoalsOver n =
      (gs : List (Tree Label × Desc)) × (length gs ≡ n + 1) × All (λ g. Goal g.0 g.1) gs
      × AllPairs (λ g h. ¬ SameGoal g h) gs
