-- Which expressions and statements are well typed, and of which type an expression is. A type is a kind, and what is declared a cost counts as a number.
use Rattle.std.specs.Prelude.{Bool, true, false, ◌&&◌, nat_le, List, [], ◌∷◌, ◌++◌, map, codes, Option, Some, None, option_map, option_and_then, if◌then◌else◌}
use Rattle.std.specs.List.{list_all, list_any}
use Rattle.std.specs.Str.{bytes_eq}
use Rattle.pr_value.specs.Capped.{cap}
use Rattle.pr_value.specs.Symbols.{Symbol}
use Rattle.pr_value.specs.SymbolSets.{contains}
use Rattle.pr_value.specs.declared.kind.Kind.{Kind}
use Rattle.pr_value.specs.declared.kind.Kind.TheVariants as kind
use Rattle.rule_ast.specs.declared.expr.BinOp.{BinOp}
use Rattle.rule_ast.specs.declared.expr.BinOp.TheVariants as op
use Rattle.rule_ast.specs.declared.expr.FoldKind.{FoldKind}
use Rattle.rule_ast.specs.declared.expr.FoldKind.TheVariants as folding
use Rattle.rule_ast.specs.declared.table.Builtin.{Builtin}
use Rattle.rule_ast.specs.declared.table.Builtin.TheVariants as builtin
use Rattle.rule_ast.specs.declared.parts.Param.{Param}
use Rattle.pr_value.specs.declared.property.Property.{Property}
use Rattle.rule_ast.specs.Syntax.{Expr, number, truth, symbol, set_of, list_of, var, read, call, binary, fold, Exprs, Stmt, set, copy, Body, Helper}
use Rattle.rule_ast.specs.Syntax as syntax

-- the type of what is declared of a kind
abbrev pub type_of_kind : Kind → Kind
type_of_kind kind.Cost = kind.Num
type_of_kind k = k

abbrev pub same_type : Kind → Kind → Bool
same_type kind.Num kind.Num = true
same_type kind.Truth kind.Truth = true
same_type kind.Symbol kind.Symbol = true
same_type kind.Set kind.Set = true
same_type kind.List kind.List = true
same_type kind.Cost kind.Cost = true
same_type _ _ = false

abbrev pub same_types : List Kind → List Kind → Bool
same_types [] [] = true
same_types [] (l ∷ ls) = false
same_types (k ∷ ks) [] = false
same_types (k ∷ ks) (l ∷ ls) = same_type k l && same_types ks ls

-- what a function takes and gives
pub record Signature : Type 0 where
  pub name : Symbol
  pub params : List Kind
  pub result : Kind

abbrev pub signature : Symbol → List Kind → Kind → Signature
signature f params result = record { name = f; params = params; result = result }

-- a function, and a name with what it takes and gives under it
pub record Row : Type 0 where
  pub function : Builtin
  pub signature : Signature

abbrev pub row : Symbol → Builtin → List Kind → Kind → Row
row name f params result = record { function = f; signature = signature name params result }

-- a choice between two values of a type
abbrev pub choice : Kind → Row
choice t = row (codes "if") builtin.If (kind.Truth ∷ t ∷ t ∷ []) t

-- a look-up in a table, by one to four keys
abbrev pub lookups : Symbol → Builtin → Kind → List Row
lookups name f t =
    row name f (kind.Symbol ∷ kind.Symbol ∷ []) t ∷
    row name f (kind.Symbol ∷ kind.Symbol ∷ kind.Symbol ∷ []) t ∷
    row name f (kind.Symbol ∷ kind.Symbol ∷ kind.Symbol ∷ kind.Symbol ∷ []) t ∷
    row name f (kind.Symbol ∷ kind.Symbol ∷ kind.Symbol ∷ kind.Symbol ∷ kind.Symbol ∷ []) t ∷ []

-- the built-in functions: one of several rows by what a function is given
abbrev pub table : List Row
table =
    choice kind.Num ∷ choice kind.Truth ∷ choice kind.Symbol ∷ choice kind.Set ∷ choice kind.List ∷
    row (codes "not") builtin.Not (kind.Truth ∷ []) kind.Truth ∷
    row (codes "min") builtin.Min (kind.Num ∷ kind.Num ∷ []) kind.Num ∷
    row (codes "max") builtin.Max (kind.Num ∷ kind.Num ∷ []) kind.Num ∷
    row (codes "log2") builtin.Log2 (kind.Num ∷ []) kind.Num ∷
    row (codes "union") builtin.Union (kind.Set ∷ kind.Set ∷ []) kind.Set ∷
    row (codes "minus") builtin.Minus (kind.Set ∷ kind.Set ∷ []) kind.Set ∷
    row (codes "meet") builtin.Meet (kind.Set ∷ kind.Set ∷ []) kind.Set ∷
    row (codes "has") builtin.Has (kind.Set ∷ kind.Symbol ∷ []) kind.Truth ∷
    row (codes "subset") builtin.Subset (kind.Set ∷ kind.Set ∷ []) kind.Truth ∷
    row (codes "size") builtin.Size (kind.Set ∷ []) kind.Num ∷
    row (codes "length") builtin.Length (kind.List ∷ []) kind.Num ∷
    row (codes "at") builtin.At (kind.List ∷ kind.Num ∷ []) kind.Symbol ∷
    row (codes "prefix") builtin.Prefix (kind.List ∷ kind.List ∷ []) kind.Truth ∷
    row (codes "concat") builtin.Concat (kind.List ∷ kind.List ∷ []) kind.List ∷
    row (codes "elems") builtin.Elems (kind.List ∷ []) kind.Set ∷
    lookups (codes "num_at") builtin.NumAt kind.Num ++ lookups (codes "truth_at") builtin.TruthAt kind.Truth ++
    lookups (codes "sym_at") builtin.SymbolAt kind.Symbol ++ lookups (codes "set_at") builtin.SetAt kind.Set ++
    lookups (codes "list_at") builtin.ListAt kind.List

-- the function of the first row of that name
abbrev pub function_in : List Row → Symbol → Option Builtin
function_in [] f = None
function_in (r ∷ rs) f = if bytes_eq r.signature.name f then Some r.function else function_in rs f

-- the built-in function of that name
abbrev pub builtin_of : Symbol → Option Builtin
builtin_of = function_in table

abbrev pub builtins : List Signature
builtins = map (λ r. r.signature) table

-- the name is that of a built-in function
abbrev pub is_builtin : Symbol → Bool
is_builtin f = list_any (λ s. bytes_eq s.name f) builtins

-- the result of the first signature of that name and these parameters
abbrev pub result_in : List Signature → Symbol → List Kind → Option Kind
result_in [] f types = None
result_in (s ∷ ss) f types = if bytes_eq s.name f && same_types s.params types then Some s.result else result_in ss f types

-- the result of the first helper of that name, where it takes these parameters
abbrev pub helper_result : List Signature → Symbol → List Kind → Option Kind
helper_result [] f types = None
helper_result (s ∷ ss) f types = if bytes_eq s.name f then (if same_types s.params types then Some s.result else None) else helper_result ss f types

-- what a call gives: a built-in's name always means the built-in
abbrev pub call_type : List Signature → Symbol → List Kind → Option Kind
call_type helpers f types = if is_builtin f then result_in builtins f types else helper_result helpers f types

abbrev pub binary_type : BinOp → Kind → Kind → Option Kind
binary_type op.Add kind.Num kind.Num = Some kind.Num
binary_type op.Sub kind.Num kind.Num = Some kind.Num
binary_type op.Mul kind.Num kind.Num = Some kind.Num
binary_type op.Div kind.Num kind.Num = Some kind.Num
binary_type op.Equal t u = if same_type t u then Some kind.Truth else None
binary_type op.NotEqual t u = if same_type t u then Some kind.Truth else None
binary_type op.Less kind.Num kind.Num = Some kind.Truth
binary_type op.LessEqual kind.Num kind.Num = Some kind.Truth
binary_type op.Greater kind.Num kind.Num = Some kind.Truth
binary_type op.GreaterEqual kind.Num kind.Num = Some kind.Truth
binary_type op.And kind.Truth kind.Truth = Some kind.Truth
binary_type op.Or kind.Truth kind.Truth = Some kind.Truth
binary_type _ _ _ = None

-- what is folded is a set or a list
abbrev pub is_collection : Kind → Bool
is_collection kind.Set = true
is_collection kind.List = true
is_collection _ = false

-- what a fold gives over a set or a list, from the type of its body
abbrev pub member_type : FoldKind → Kind → Kind → Option Kind
member_type folding.Sum over kind.Num = Some kind.Num
member_type folding.Product over kind.Num = Some kind.Num
member_type folding.Any over kind.Truth = Some kind.Truth
member_type folding.All over kind.Truth = Some kind.Truth
member_type folding.Keep over kind.Truth = Some over
member_type _ _ _ = None

abbrev pub fold_type : FoldKind → Kind → Kind → Option Kind
fold_type k over each = if is_collection over then member_type k over each else None

-- the names that may be used: descriptors, and parameters and fold names with their types
pub record Context : Type 0 where
  pub descs : List Symbol
  pub vars : List (Symbol × Kind)

abbrev pub var_type : List (Symbol × Kind) → Symbol → Option Kind
var_type [] x = None
var_type (v ∷ vs) x = if bytes_eq v.0 x then Some v.1 else var_type vs x

-- the context within a fold's body, where the fold's name is a member
abbrev pub with_member : Symbol → Context → Context
with_member x c = record c { vars = (x, kind.Symbol) ∷ c.vars }

abbrev pub property_kind : List Property → Symbol → Option Kind
property_kind [] name = None
property_kind (p ∷ ps) name = if bytes_eq p.name name then Some p.kind else property_kind ps name

abbrev pub is_symbol_type : Kind → Bool
is_symbol_type = same_type kind.Symbol

-- a set or a list of symbols
abbrev pub of_symbols : Kind → List Kind → Option Kind
of_symbols result types = if list_all is_symbol_type types then Some result else None

-- the type of an expression, over these properties and helpers, or none where it is not well typed
abbrev mutual
  pub type_of : List Property → List Signature → Context → Expr → Option Kind
  type_of ps hs c (number n) = if nat_le n cap then Some kind.Num else None
  type_of ps hs c (truth b) = Some kind.Truth
  type_of ps hs c (symbol s) = Some kind.Symbol
  type_of ps hs c (set_of es) = option_and_then (of_symbols kind.Set) (types_of ps hs c es)
  type_of ps hs c (list_of es) = option_and_then (of_symbols kind.List) (types_of ps hs c es)
  type_of ps hs c (var x) = var_type c.vars x
  type_of ps hs c (read d p) = if contains c.descs d then option_map type_of_kind (property_kind ps p) else None
  type_of ps hs c (call f es) = option_and_then (call_type hs f) (types_of ps hs c es)
  type_of ps hs c (binary a o b) = option_and_then (λ t. option_and_then (binary_type o t) (type_of ps hs c b)) (type_of ps hs c a)
  type_of ps hs c (fold k x over each) = option_and_then (λ t. option_and_then (fold_type k t) (type_of ps hs (with_member x c) each)) (type_of ps hs c over)

  pub types_of : List Property → List Signature → Context → Exprs → Option (List Kind)
  types_of ps hs c syntax.nil = Some []
  types_of ps hs c (syntax.cons e es) = option_and_then (λ t. option_map (λ ts. t ∷ ts) (types_of ps hs c es)) (type_of ps hs c e)

-- the type is there, and is this one
abbrev pub is_type : Kind → Option Kind → Bool
is_type t None = false
is_type t (Some u) = same_type t u

-- ---- statements

-- the property is declared, and the value is of its type
abbrev pub fits_property : Option Kind → Option Kind → Bool
fits_property None value = false
fits_property (Some k) value = is_type (type_of_kind k) value

abbrev pub is_typed_stmt : List Property → List Signature → Context → Stmt → Bool
is_typed_stmt ps hs c (set d p e) = contains c.descs d && fits_property (property_kind ps p) (type_of ps hs c e)
is_typed_stmt ps hs c (copy d e) = contains c.descs d && contains c.descs e

-- ---- helpers

abbrev pub helper_signature : Helper → Signature
helper_signature h = signature h.name (map (λ p. type_of_kind p.kind) h.params) (type_of_kind h.result)

-- a helper's body may use its parameters
abbrev pub params_context : List Param → Context
params_context params = record { descs = []; vars = map (λ p. (p.name, type_of_kind p.kind)) params }

-- the signatures of helpers, the latest first, before those of earlier ones
abbrev pub signatures_before : List Signature → List Helper → List Signature
signatures_before hs [] = hs
signatures_before hs (h ∷ more) = signatures_before (helper_signature h ∷ hs) more

abbrev pub signatures_of : List Helper → List Signature
signatures_of = signatures_before []

-- each helper's body is of its result's type, and calls earlier helpers alone
abbrev pub are_typed : List Property → List Signature → List Helper → Bool
are_typed ps hs [] = true
are_typed ps hs (h ∷ more) = is_type (type_of_kind h.result) (type_of ps hs (params_context h.params) h.body) && are_typed ps (helper_signature h ∷ hs) more

-- the statements are well typed, and the test is a truth
abbrev pub is_typed_body : List Property → List Signature → Context → Body → Bool
is_typed_body ps hs c b =
    list_all (is_typed_stmt ps hs c) b.pre && is_type kind.Truth (type_of ps hs c b.test) &&
    list_all (is_typed_stmt ps hs c) b.post
