-- What was found for trees.
use Rattle.std.specs.Prelude.{◌≡◌, ℕ, List, [], ◌∷◌, ◌++◌, Option, option_map}
use Rattle.std.specs.List.{AllByRecursion as Every}
use Rattle.catalog.specs.Contents.{Catalog}
use Rattle.descriptor_types.specs.Labels.{seen_tree}
use Rattle.descriptor_types.specs.declared.tree.Tree.{Tree}
use Rattle.plan_form.specs.Plans.{IsAnswer, seen_plan}
use Rattle.plan_form.specs.declared.plan.Plan.{Plan}
use Rattle.plan_search.specs.declared.found.Found.{Found}
use Rattle.rule_ast.specs.Syntax.{Rules}

-- each answer is one of its tree
abbrev pub AreFound : Rules → Catalog → List Found → Type 0
AreFound r c = Every (λ f. IsAnswer r c (seen_tree f.tree) (option_map seen_plan f.answer))

-- the answer of the tree is kept behind the others
abbrev pub IsKept : List Found → ℕ → Tree → Option Plan → List Found → Type 0
IsKept before level t answer after =
    after ≡ before ++ record { level = level; tree = t; answer = answer } ∷ []
