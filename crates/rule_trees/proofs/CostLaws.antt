-- Statements that assign no cost leave every descriptor's cost at 0.
use Rattle.std.proofs.Common.{◌≡◌, true, false, cond, List, [], ◌∷◌, refl, ◌∙◌}
use Rattle.std.specs.Prelude.{⊤}
use Rattle.std.specs.List.{list_any}
use Rattle.std.specs.Str.{bytes_eq}
use Rattle.pr_value.specs.Symbols.{Symbol}
use Rattle.pr_value.specs.declared.property.Property.{Property}
use Rattle.pr_value.specs.declared.value.Value.TheVariants as value
use Rattle.catalog.specs.Contents.{Catalog}
use Rattle.descriptor_types.specs.Descriptors.{Desc, value_of, with_value}
use Rattle.descriptor_types.proofs.PlaceLaws.{value_of-with_other}
use Rattle.rule_ast.specs.CostForms.{cost_name}
use Rattle.rule_ast.specs.Syntax.{Stmt, set, copy, Rules}
use Rattle.rule_types.specs.LaterConditions.{assigns_cost}
use Rattle.rule_types.specs.Uses.{any_use_in}
use Rattle.action_eval.proofs.PlainLaws.{or_first, or_second}
use Rattle.action_eval.specs.Meaning.{Scope, desc_in, with_desc_in, run, run_one, val}
use Rattle.rule_trees.specs.Trees.{IsFree}

abbrev Descs : Type 0
Descs = List (Symbol × Desc)

-- every descriptor of the scope costs 0
abbrev pub AreFree : Rules → Descs → Type 0
AreFree r [] = ⊤
AreFree r (d ∷ ds) = IsFree r d.1 × AreFree r ds

free-none : (ps : List Property) (name : Symbol) → value_of ps name [] ≡ value.Num 0
free-none [] name = refl
free-none (p ∷ ps) name = refl

-- and so does what a name stands for
pub free-desc_in : (r : Rules) (ds : Descs) (name : Symbol) → AreFree r ds → IsFree r (desc_in ds name)
free-desc_in r [] name free = free-none r.properties (cost_name r.properties)
free-desc_in r (d ∷ ds) name free =
    elim (bytes_eq d.0 name) as (λ b. IsFree r (cond b d.1 (desc_in ds name))) [
      | true ↦ free.0
      | false ↦ free-desc_in r ds name free.1
    ]

free-with_desc_in : (r : Rules) (ds : Descs) (name : Symbol) (e : Desc) → AreFree r ds → IsFree r e → AreFree r (with_desc_in ds name e)
free-with_desc_in r [] name e free this = free
free-with_desc_in r (d ∷ ds) name e free this =
    elim (bytes_eq d.0 name) as (λ b. AreFree r (cond b ((d.0, e) ∷ ds) (d ∷ with_desc_in ds name e))) [
      | true ↦ (this, free.1)
      | false ↦ (free.0, free-with_desc_in r ds name e free.1 this)
    ]

-- the scope after one statement
free-run_one : (r : Rules) (c : Catalog) (s : Stmt) (scope : Scope) → any_use_in (assigns_cost (cost_name r.properties)) s ≡ false → AreFree r scope.descs → AreFree r (run_one r.properties r.helpers c s scope).descs
free-run_one r c (set d p e) scope none free =
    free-with_desc_in r scope.descs d (with_value r.properties p (val r.properties r.helpers c scope e) (desc_in scope.descs d)) free
    (value_of-with_other r.properties p (cost_name r.properties) (val r.properties r.helpers c scope e) (desc_in scope.descs d) (or_first _ _ none)
    ∙ free-desc_in r scope.descs d free)
free-run_one r c (copy d e) scope none free =
    free-with_desc_in r scope.descs d (desc_in scope.descs e) free (free-desc_in r scope.descs e free)

-- the scope after statements
pub free-run : (r : Rules) (c : Catalog) (ss : List Stmt) (scope : Scope) → list_any (any_use_in (assigns_cost (cost_name r.properties))) ss ≡ false → AreFree r scope.descs → AreFree r (run r.properties r.helpers c ss scope).descs
free-run r c [] scope none free = free
free-run r c (s ∷ ss) scope none free =
    free-run r c ss (run_one r.properties r.helpers c s scope) (or_second (any_use_in (assigns_cost (cost_name r.properties)) s) _ none) (free-run_one r c s scope (or_first _ _ none) free)
