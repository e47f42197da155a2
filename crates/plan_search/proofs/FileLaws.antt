-- The plan of a file, where it implements the tree.
use Rattle.std.proofs.Common.{ℕ, [], Some, None, refl, subst, arith}
use Rattle.pr_value.specs.Symbols.{Symbol}
use Rattle.pr_value.specs.Trees.{Tree, Trees, node, nil, cons, tree}
use Rattle.catalog.specs.Contents.{Catalog}
use Rattle.descriptor_types.specs.Descriptors.{Desc}
use Rattle.descriptor_types.specs.Labels.{Label}
use Rattle.descriptor_types.specs.Labels as label
use Rattle.rule_ast.specs.Syntax.{Rules}
use Rattle.plan_form.specs.Plans.{Plan, PlanLabel, file, algorithm, Implements, cost}
use Rattle.plan_form.specs.Plans as plans
use Rattle.plan_search.specs.Search.{IsBestBelow}

module _ (r : Rules) (c : Catalog) where
  -- no file implements an operator
  pub operator-none : (op : ℕ) (d : Desc) (ts : Trees Label) → IsBestBelow r c (node (label.operator op d) ts) 0 None
  operator-none op d ts (node (file name) nil) h = h.0
  operator-none op d ts (node (file name) (cons p ps)) h = h.0
  operator-none op d ts (node (algorithm m e) ps) h = omega (arith, h.1)

  -- a file costs nothing
  pub file-some : (t : Tree Label) (name : Symbol) → Implements r c (tree (file name) []) t → IsBestBelow r c t 0 (Some (tree (file name) []))
  file-some t name done = ((done, tt), λ other h. omega arith)

  -- no other file implements it
  pub file-none : (name : Symbol) (d : Desc) → (Implements r c (tree (file name) []) (tree (label.file name d) []) → ⊥) → IsBestBelow r c (tree (label.file name d) []) 0 None
  file-none name d none (node (file other) nil) h = none (refl, subst (λ (s : Symbol). plans.SamePhysical r d (plans.listed_desc r c s)) h.0.0 h.0.1)
  file-none name d none (node (file other) (cons p ps)) h = h.0
  file-none name d none (node (algorithm m e) ps) h = omega (arith, h.1)

  -- nor one with inputs
  pub inputs-none : (name : Symbol) (d : Desc) (t : Tree Label) (ts : Trees Label) → IsBestBelow r c (node (label.file name d) (cons t ts)) 0 None
  inputs-none name d t ts (node (file other) nil) h = h.0
  inputs-none name d t ts (node (file other) (cons p ps)) h = h.0
  inputs-none name d t ts (node (algorithm m e) ps) h = omega (arith, h.1)
