-- What is asked of a cost expression, and what its form is to it.
use Rattle.std.specs.Prelude.{◌≡◌, ℕ, true, List, length, Some}
use Rattle.pr_value.specs.Symbols.{Symbol}
use Rattle.pr_value.specs.declared.kind.Kind.TheVariants as kind
use Rattle.catalog.specs.Contents.{Catalog}
use Rattle.rule_ast.specs.CostForms.{is_cost_form, reads_cost_of}
use Rattle.rule_ast.specs.Syntax.{Expr}
use Rattle.action_eval.specs.Environments.{Env, IsSound, type_in}
use Rattle.action_eval.specs.Cost.{CostForm, cost_of, is_over}
use Rattle.pr_value.specs.Repeats.{are_distinct}
use Rattle.action_eval.specs.Forms.{cost_in, form, number_here, with_costs}

-- a number of one of the forms, which reads no cost but those of inputs of these names
pub record IsCost (names : List Symbol) (env : Env) (e : Expr) : Type 0 where
  pub sound : IsSound env
  pub different : are_distinct names ≡ true
  pub typed : type_in env e ≡ Some kind.Num
  pub form : is_cost_form (cost_in env) e ≡ true
  pub of_inputs : reads_cost_of (cost_in env) names e ≡ true

-- the form of the expression, over so many inputs, which comes to what the expression comes to
pub record IsFormOf (names : List Symbol) (count : ℕ) (env : Env) (catalog : Catalog) (e : Expr) (f : CostForm) : Type 0 where
  pub is : f ≡ form names env catalog e
  pub over : is_over count f ≡ true
  pub means : (costs : List ℕ) → length costs ≡ count → cost_of f costs ≡ number_here (with_costs names costs env) catalog e
