-- Laws of environments.
use Rattle.std.specs.Prelude.{◌≡◌, true, false, [], ◌∷◌, ◌++◌, List, Some}
use Rattle.pr_value.specs.Repeats.{are_distinct}
use Rattle.pr_value.specs.Symbols.{Symbol}
use Rattle.pr_value.specs.SymbolSets.{contains}
use Rattle.pr_value.specs.Values.{has_kind}
use Rattle.pr_value.specs.declared.kind.Kind.{Kind}
use Rattle.catalog.specs.Contents.{Catalog}
use Rattle.descriptor_types.specs.Descriptors.{Desc, fits}
use Rattle.rule_ast.specs.Syntax.{Expr}
use Rattle.action_eval.specs.Environments.{Env, IsSound, bound_desc, bound_in, bound_all, names_bound, type_in, value_here}
use Rattle.action_eval.specs.Meaning.{desc_in}

-- an environment stays sound where the descriptor that is bound fits
abbrev pub BindsSoundly : Type 0
BindsSoundly = (env : Env) (name : Symbol) (d : Desc) → IsSound env → fits env.layout d ≡ true → IsSound (bound_in name d env)

-- a new name comes last
abbrev pub BindsLast : Type 0
BindsLast = (ds : List (Symbol × Desc)) (name : Symbol) (d : Desc) → contains (names_bound ds) name ≡ false → bound_desc name d ds ≡ ds ++ (name, d) ∷ []

-- a name that is there stays where it is
abbrev pub BindsInPlace : Type 0
BindsInPlace = (ds : List (Symbol × Desc)) (name : Symbol) (d : Desc) → contains (names_bound ds) name ≡ true → names_bound (bound_desc name d ds) ≡ names_bound ds

-- different names that are bound to an environment without descriptors stand in the order of binding
abbrev pub BindsInOrder : Type 0
BindsInOrder = (ds : List (Symbol × Desc)) → are_distinct (names_bound ds) ≡ true → bound_all ds [] ≡ ds

-- a descriptor that is there fits the layout
abbrev pub FoundFits : Type 0
FoundFits = (env : Env) (name : Symbol) → IsSound env → contains (names_bound env.descs) name ≡ true → fits env.layout (desc_in env.descs name) ≡ true

-- the value of a well-typed expression is of its type
abbrev pub HasItsKind : Type 0
HasItsKind = (env : Env) (catalog : Catalog) (e : Expr) (t : Kind) → IsSound env → type_in env e ≡ Some t → has_kind t (value_here env catalog e) ≡ true
