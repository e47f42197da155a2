-- The value of a well-typed expression is of its type.
use Rattle.std.proofs.Common.{◌≡◌, true, false, cond, List, [], ◌∷◌, map, Some, None, refl, ap, ◌∙◌, subst}
use Rattle.std.specs.Prelude.{option_map, option_and_then, ◌||◌}
use Rattle.std.specs.List.{list_all}
use Rattle.std.specs.Cmp.{first_so, second_so}
use Rattle.std.specs.Cmp.Derive.{both_true}
use Rattle.std.specs.Str.{bytes_eq}
use Rattle.pr_value.specs.Symbols.{Symbol}
use Rattle.pr_value.specs.SymbolSets.{contains}
use Rattle.pr_value.specs.Values.{has_kind, is_capped}
use Rattle.pr_value.proofs.ValueLaws.{is_capped-has_kind}
use Rattle.pr_value.specs.declared.kind.Kind.{Kind}
use Rattle.pr_value.specs.declared.kind.Kind.TheVariants as kind
use Rattle.pr_value.specs.declared.value.Value.{Value}
use Rattle.pr_value.specs.declared.value.Value.TheVariants as value
use Rattle.descriptor_types.specs.Descriptors.{Layout, Desc, fits, value_of}
use Rattle.rule_ast.specs.declared.expr.BinOp.{BinOp}
use Rattle.rule_ast.specs.declared.expr.BinOp.TheVariants as op
use Rattle.rule_ast.specs.declared.expr.FoldKind.{FoldKind}
use Rattle.rule_ast.specs.declared.expr.FoldKind.TheVariants as folding
use Rattle.pr_value.specs.declared.property.Property.{Property}
use Rattle.rule_ast.specs.Syntax.{Expr, number, truth, symbol, set_of, list_of, var, read, call, binary, fold, Exprs, Helper}
use Rattle.rule_ast.specs.Syntax as syntax
use Rattle.rule_ast.specs.Typing.{Signature, type_of_kind, same_type, call_type, binary_type, fold_type, member_type, is_collection, var_type, property_kind, is_symbol_type, of_symbols, type_of, types_of}
use Rattle.action_eval.specs.Builtins.{Functions, collection, fold_value, binary_value}
use Rattle.action_eval.specs.Meaning.{Scope, desc_in, value_in, value_by, values_by}
use Rattle.action_eval.specs.Types.{kind_of, context_in}
use Rattle.action_eval.proofs.CappedLaws.{capped-binary, capped-fold, value_in-capped}
use Rattle.action_eval.proofs.TypeLaws.{some-same, cond-some, bytes_eq-sym}
use Rattle.pr_value.proofs.Shelf.{option_map-some, option_and_then-some}

-- ---- parts

var-kind : (vs : List (Symbol × Value)) (x : Symbol) (t : Kind) → var_type (map (λ v. (v.0, kind_of v.1)) vs) x ≡ Some t → kind_of (value_in vs x) ≡ t
var-kind [] x t is = cc
var-kind (v ∷ vs) x t is =
    elim (bytes_eq v.0 x) as (λ b. cond b (Some (kind_of v.1)) (var_type (map (λ v. (v.0, kind_of v.1)) vs) x) ≡ Some t → kind_of (cond b v.1 (value_in vs x)) ≡ t) [
      | true ↦ λ e. some-same e
      | false ↦ λ e. var-kind vs x t e
    ] is

-- a value of a kind is of its type
pub type-has_kind : (k : Kind) (v : Value) → has_kind k v ≡ true → kind_of v ≡ type_of_kind k
type-has_kind kind.Num (value.Num n) is = refl
type-has_kind kind.Cost (value.Num n) is = refl
type-has_kind kind.Truth (value.Truth b) is = refl
type-has_kind kind.Symbol (value.Sym s) is = refl
type-has_kind kind.Set (value.Set ss) is = refl
type-has_kind kind.List (value.List ss) is = refl
type-has_kind _ _ is = cc

-- a descriptor that fits has a value of its kind for each property
pub has_kind-value_of : (ps : List Property) (p : Symbol) (k : Kind) (d : Desc) → fits ps d ≡ true → property_kind ps p ≡ Some k → has_kind k (value_of ps p d) ≡ true
has_kind-value_of [] p k d fit is = cc
has_kind-value_of (q ∷ ps) p k [] fit is = cc
has_kind-value_of (q ∷ ps) p k (v ∷ d) fit is =
    elim (bytes_eq q.name p) as (λ b. cond b (Some q.kind) (property_kind ps p) ≡ Some k → has_kind k (cond b v (value_of ps p d)) ≡ true) [
      | true ↦ λ e. subst (λ (j : Kind). has_kind j v ≡ true) (some-same e) (first_so (has_kind q.kind v) (fits ps d) fit)
      | false ↦ λ e. has_kind-value_of ps p k d (second_so (has_kind q.kind v) (fits ps d) fit) e
    ] is

-- the descriptor of a name that is there fits as all do
pub fits-desc_in : (layout : Layout) (ds : List (Symbol × Desc)) (name : Symbol) → list_all (λ d. fits layout d.1) ds ≡ true → contains (map (λ d. d.0) ds) name ≡ true → fits layout (desc_in ds name) ≡ true
fits-desc_in layout [] name all there = cc
fits-desc_in layout (d ∷ ds) name all there =
    elim (bytes_eq d.0 name) as (λ b. (b || contains (map (λ d. d.0) ds) name) ≡ true → fits layout (cond b d.1 (desc_in ds name)) ≡ true) [
      | true ↦ λ e. first_so (fits layout d.1) (list_all (λ d. fits layout d.1) ds) all
      | false ↦ λ e. fits-desc_in layout ds name (second_so (fits layout d.1) (list_all (λ d. fits layout d.1) ds) all) e
    ] (ap (λ b. b || contains (map (λ d. d.0) ds) name) (bytes_eq-sym d.0 name) ∙ there)

-- the type of what an operator gives
abbrev result_kind : BinOp → Kind
result_kind op.Add = kind.Num
result_kind op.Sub = kind.Num
result_kind op.Mul = kind.Num
result_kind op.Div = kind.Num
result_kind _ = kind.Truth

binary-kind : (o : BinOp) (t u r : Kind) → binary_type o t u ≡ Some r → result_kind o ≡ r
binary-kind op.Equal t u r is = (cond-some (same_type t u) kind.Truth r is).1
binary-kind op.NotEqual t u r is = (cond-some (same_type t u) kind.Truth r is).1
binary-kind op.Add kind.Num kind.Num r is = some-same is
binary-kind op.Sub kind.Num kind.Num r is = some-same is
binary-kind op.Mul kind.Num kind.Num r is = some-same is
binary-kind op.Div kind.Num kind.Num r is = some-same is
binary-kind op.Less kind.Num kind.Num r is = some-same is
binary-kind op.LessEqual kind.Num kind.Num r is = some-same is
binary-kind op.Greater kind.Num kind.Num r is = some-same is
binary-kind op.GreaterEqual kind.Num kind.Num r is = some-same is
binary-kind op.And kind.Truth kind.Truth r is = some-same is
binary-kind op.Or kind.Truth kind.Truth r is = some-same is
binary-kind _ _ _ r is = cc

result-kind : (o : BinOp) (a b : Value) → kind_of (binary_value o a b) ≡ result_kind o
result-kind op.Add a b = refl
result-kind op.Sub a b = refl
result-kind op.Mul a b = refl
result-kind op.Div a b = refl
result-kind _ a b = refl

collection-kind : (over : Value) (ss : List Symbol) → is_collection (kind_of over) ≡ true → kind_of (collection over ss) ≡ kind_of over
collection-kind (value.Set ts) ss is = refl
collection-kind (value.List ts) ss is = refl
collection-kind _ ss is = cc

member-kind : (k : FoldKind) (over : Value) (each : Symbol → Value) (u t : Kind) → is_collection (kind_of over) ≡ true → member_type k (kind_of over) u ≡ Some t → kind_of (fold_value k over each) ≡ t
member-kind folding.Sum over each kind.Num t of is = some-same is
member-kind folding.Product over each kind.Num t of is = some-same is
member-kind folding.Any over each kind.Truth t of is = some-same is
member-kind folding.All over each kind.Truth t of is = some-same is
member-kind folding.Keep over each kind.Truth t of is = collection-kind over _ of ∙ some-same is
member-kind _ over each _ t of is = cc

fold-kind : (k : FoldKind) (over : Value) (each : Symbol → Value) (u t : Kind) → fold_type k (kind_of over) u ≡ Some t → kind_of (fold_value k over each) ≡ t
fold-kind k over each u t is =
    elim (is_collection (kind_of over)) as (λ b. is_collection (kind_of over) ≡ b → cond b (member_type k (kind_of over) u) None ≡ Some t → kind_of (fold_value k over each) ≡ t) [
      | true ↦ λ of e. member-kind k over each u t of e
      | false ↦ λ of e. cc
    ] refl is

-- ---- expressions

-- the value is of the type, and within the cap
abbrev pub Is : Kind → Value → Type 0
Is t v = (kind_of v ≡ t) × (is_capped v ≡ true)

-- each call that is well typed gives a value of its type
abbrev pub Sound : List Signature → Functions → Type 0
Sound hs calls = (f : Symbol) (args : List Value) (t : Kind) → list_all is_capped args ≡ true → call_type hs f (map kind_of args) ≡ Some t → Is t (calls f args)

-- each descriptor fits, and each value is within the cap
pub record Fits (layout : Layout) (scope : Scope) : Type 0 where
  pub descs : list_all (λ d. fits layout d.1) scope.descs ≡ true
  pub values : list_all (λ v. is_capped v.1) scope.values ≡ true

module _ (ps : List Property) (hs : List Signature) (calls : Functions) (sound : Sound hs calls) where
  mutual
    pub value-is : (e : Expr) (scope : Scope) (t : Kind) → Fits ps scope → type_of ps hs (context_in scope) e ≡ Some t → Is t (value_by ps calls scope e)
    value-is (number n) scope t fit is = let c = cond-some _ kind.Num t is in (c.1, c.0)
    value-is (truth b) scope t fit is = (some-same is, refl)
    value-is (symbol s) scope t fit is = (some-same is, refl)
    value-is (set_of es) scope t fit is =
        let i = option_and_then-some (of_symbols kind.Set) (types_of ps hs (context_in scope) es) t is in
        ((cond-some (list_all is_symbol_type i.0) kind.Set t i.2).1, refl)
    value-is (list_of es) scope t fit is =
        let i = option_and_then-some (of_symbols kind.List) (types_of ps hs (context_in scope) es) t is in
        ((cond-some (list_all is_symbol_type i.0) kind.List t i.2).1, refl)
    value-is (var x) scope t fit is = (var-kind scope.values x t is, value_in-capped scope.values x fit.values)
    value-is (read d p) scope t fit is =
        elim (contains (map (λ d. d.0) scope.descs) d) as (λ b. contains (map (λ d. d.0) scope.descs) d ≡ b → cond b (option_map type_of_kind (property_kind ps p)) None ≡ Some t → Is t (value_of ps p (desc_in scope.descs d))) [
          | true ↦ λ there e.
              let i = option_map-some type_of_kind (property_kind ps p) t e in
              let has = has_kind-value_of ps p i.0 (desc_in scope.descs d) (fits-desc_in ps scope.descs d fit.descs there) i.1 in
              (type-has_kind i.0 _ has ∙ i.2, is_capped-has_kind i.0 _ has)
          | false ↦ λ there e. cc
        ] refl is
    value-is (call f es) scope t fit is =
        let i = option_and_then-some (call_type hs f) (types_of ps hs (context_in scope) es) t is in
        let are = values-are es scope i.0 fit i.1 in
        sound f (values_by ps calls scope es) t are.1 (ap (call_type hs f) are.0 ∙ i.2)
    value-is (binary a o b) scope t fit is =
        let i = option_and_then-some (λ u. option_and_then (binary_type o u) (type_of ps hs (context_in scope) b)) (type_of ps hs (context_in scope) a) t is in
        let j = option_and_then-some (binary_type o i.0) (type_of ps hs (context_in scope) b) t i.2 in
        (result-kind o (value_by ps calls scope a) (value_by ps calls scope b) ∙ binary-kind o i.0 j.0 t j.2, capped-binary o _ _)
    value-is (fold k x over each) scope t fit is =
        let i = option_and_then-some _ (type_of ps hs (context_in scope) over) t is in
        let j = option_and_then-some (fold_type k i.0) _ t i.2 in
        (fold-kind k (value_by ps calls scope over) _ j.0 t (ap (λ (u : Kind). fold_type k u j.0) (value-is over scope i.0 fit i.1).0 ∙ j.2), capped-fold k _ _)

    values-are : (es : Exprs) (scope : Scope) (ts : List Kind) → Fits ps scope → types_of ps hs (context_in scope) es ≡ Some ts → (map kind_of (values_by ps calls scope es) ≡ ts) × (list_all is_capped (values_by ps calls scope es) ≡ true)
    values-are syntax.nil scope ts fit is = (some-same is, refl)
    values-are (syntax.cons e es) scope ts fit is =
        let i = option_and_then-some _ (type_of ps hs (context_in scope) e) ts is in
        let j = option_map-some _ (types_of ps hs (context_in scope) es) ts i.2 in
        let first = value-is e scope i.0 fit i.1 in
        let rest = values-are es scope j.0 fit j.1 in
        (ap (λ (k : Kind). k ∷ map kind_of (values_by ps calls scope es)) first.0 ∙ ap (λ (ks : List Kind). i.0 ∷ ks) rest.0 ∙ j.2, both_true first.1 rest.1)

-- a descriptor of a name that is not there is empty
pub desc_in-unknown : (ds : List (Symbol × Desc)) (name : Symbol) → contains (map (λ d. d.0) ds) name ≡ false → desc_in ds name ≡ []
desc_in-unknown [] name none = refl
desc_in-unknown (d ∷ ds) name none =
    elim (bytes_eq d.0 name) as (λ b. (b || contains (map (λ d. d.0) ds) name) ≡ false → cond b d.1 (desc_in ds name) ≡ []) [
      | true ↦ λ e. cc
      | false ↦ λ e. desc_in-unknown ds name e
    ] (ap (λ b. b || contains (map (λ d. d.0) ds) name) (bytes_eq-sym d.0 name) ∙ none)
