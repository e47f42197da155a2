-- The tree of an operator over trees that are built.
use Rattle.std.specs.Prelude.{List, map}
use Rattle.pr_value.specs.Symbols.{Symbol}
use Rattle.pr_value.specs.Trees.{Tree, tree}
use Rattle.catalog.specs.Contents.{Catalog}
use Rattle.descriptor_types.specs.Labels.{Label, operator}
use Rattle.query_build.specs.Query.{initial_desc}
use Rattle.rule_trees.specs.Arities.{operator_named}
use Rattle.rule_trees.specs.Views.{view_in}
use Rattle.rule_ast.specs.declared.query.Setting.{Setting}
use Rattle.rule_ast.specs.Syntax.{Rules}
use Rattle.rule_runs.specs.Sides.{operator_at}

-- the operator of that name, with the descriptor that its initializer leaves
abbrev pub built_operator : Rules → Catalog → Symbol → List Setting → List (Tree Label) → Tree Label
built_operator r c o settings ts =
    tree
    (operator (operator_at r.operators o)
    (initial_desc r c (operator_named r.operators o) settings (map (view_in r) ts)))
    ts
