-- The built-in functions: their names, what they give, and of which type it is.
use Rattle.std.proofs.Common.{◌≡◌, Bool, true, false, cond, List, [], ◌∷◌, length, take, map, Option, Some, None, Result, Ok, Err, IfOk, refl, ap, sym, ◌∙◌, subst, arith}
use Rattle.std.specs.Prelude.{codes, ◌&&◌, ◌||◌}
use Rattle.std.specs.List.{list_all, list_any}
use Rattle.std.specs.Cmp.{first_so, second_so}
use Rattle.std.specs.Cmp.Lexicographic.{pointwise}
use Rattle.std.specs.Str.{bytes_eq}
use Rattle.pr_value.specs.Symbols.{Symbol}
use Rattle.pr_value.specs.Values.{is_capped, number_in, truth_in}
use Rattle.pr_value.specs.declared.kind.Kind.{Kind}
use Rattle.pr_value.specs.declared.kind.Kind.TheVariants as kind
use Rattle.pr_value.specs.declared.value.Value.{Value}
use Rattle.pr_value.specs.declared.value.Value.TheVariants as value
use Rattle.pr_value.proofs.Shelf.{bytes_eq-same}
use Rattle.catalog.specs.Contents.{Catalog}
use Rattle.rule_ast.specs.Typing.{Signature, Row, same_types, is_builtin, builtin_of, function_in, call_type, result_in, helper_result}
use Rattle.rule_ast.specs.Typing as typing
use Rattle.rule_ast.specs.declared.table.Builtin.{Builtin}
use Rattle.rule_ast.specs.declared.table.Builtin.TheVariants as builtin
use Rattle.action_eval.specs.Builtins.{Functions, builtin_value, meant, is_prefix, at, found, num_found, truth_found, symbol_found, set_found, list_found}
use Rattle.action_eval.specs.Meaning.{with_builtins}
use Rattle.action_eval.specs.Types.{kind_of}
use Rattle.action_eval.proofs.CappedLaws.{capped-le, number-capped, at-capped, log2-capped}
use Rattle.action_eval.proofs.KindLaws.{Is, Sound}
use Rattle.action_eval.proofs.TypeLaws.{some-same, cond-some, same_types-is}

pub is_prefix-starts_with : (ss ts : List Symbol) → is_prefix ss ts ≡ pointwise bytes_eq ss (take (length ss) ts)
is_prefix-starts_with [] ts = refl
is_prefix-starts_with (s ∷ ss) [] = refl
is_prefix-starts_with (s ∷ ss) (t ∷ ts) = ap (λ b. bytes_eq s t && b) (is_prefix-starts_with ss ts)

-- ---- names

abbrev name_of : Builtin → Symbol
name_of builtin.If = codes "if"
name_of builtin.Not = codes "not"
name_of builtin.Min = codes "min"
name_of builtin.Max = codes "max"
name_of builtin.Log2 = codes "log2"
name_of builtin.Union = codes "union"
name_of builtin.Minus = codes "minus"
name_of builtin.Meet = codes "meet"
name_of builtin.Has = codes "has"
name_of builtin.Subset = codes "subset"
name_of builtin.Size = codes "size"
name_of builtin.Length = codes "length"
name_of builtin.At = codes "at"
name_of builtin.Prefix = codes "prefix"
name_of builtin.Concat = codes "concat"
name_of builtin.Elems = codes "elems"
name_of builtin.NumAt = codes "num_at"
name_of builtin.TruthAt = codes "truth_at"
name_of builtin.SymbolAt = codes "sym_at"
name_of builtin.SetAt = codes "set_at"
name_of builtin.ListAt = codes "list_at"

named-in : (rs : List Row) (f : Symbol) (g : Builtin) → list_all (λ r. bytes_eq r.signature.name (name_of r.function)) rs ≡ true → function_in rs f ≡ Some g → f ≡ name_of g
named-in [] f g all is = cc
named-in (r ∷ rs) f g all is =
    elim (bytes_eq r.signature.name f) as (λ b. bytes_eq r.signature.name f ≡ b → cond b (Some r.function) (function_in rs f) ≡ Some g → f ≡ name_of g) [
      | true ↦ λ e s. sym (bytes_eq-same r.signature.name f e) ∙ bytes_eq-same r.signature.name (name_of r.function) (first_so _ _ all) ∙ ap name_of (some-same s)
      | false ↦ λ e s. named-in rs f g (second_so _ _ all) s
    ] refl is

-- a function that is found has the name
named : (f : Symbol) (g : Builtin) → builtin_of f ≡ Some g → f ≡ name_of g
named f g is = named-in typing.table f g refl is

known-in : (rs : List Row) (f : Symbol) (g : Builtin) → function_in rs f ≡ Some g → list_any (λ s. bytes_eq s.name f) (map (λ r. r.signature) rs) ≡ true
known-in [] f g is = cc
known-in (r ∷ rs) f g is =
    elim (bytes_eq r.signature.name f) as (λ b. cond b (Some r.function) (function_in rs f) ≡ Some g → (b || list_any (λ s. bytes_eq s.name f) (map (λ r. r.signature) rs)) ≡ true) [
      | true ↦ λ e. refl
      | false ↦ λ e. known-in rs f g e
    ] is

unknown-in : (rs : List Row) (f : Symbol) → function_in rs f ≡ None → list_any (λ s. bytes_eq s.name f) (map (λ r. r.signature) rs) ≡ false
unknown-in [] f is = refl
unknown-in (r ∷ rs) f is =
    elim (bytes_eq r.signature.name f) as (λ b. cond b (Some r.function) (function_in rs f) ≡ None → (b || list_any (λ s. bytes_eq s.name f) (map (λ r. r.signature) rs)) ≡ false) [
      | true ↦ λ e. cc
      | false ↦ λ e. unknown-in rs f e
    ] is

-- the type of a call of a built-in function, and of another
call_type-known : (hs : List Signature) (f : Symbol) (g : Builtin) (types : List Kind) → builtin_of f ≡ Some g → call_type hs f types ≡ result_in typing.builtins (name_of g) types
call_type-known hs f g types is =
    ap (λ b. cond b (result_in typing.builtins f types) (helper_result hs f types)) (known-in typing.table f g is) ∙ ap (λ (n : Symbol). result_in typing.builtins n types) (named f g is)

call_type-passed : (hs : List Signature) (f : Symbol) (types : List Kind) → builtin_of f ≡ None → call_type hs f types ≡ helper_result hs f types
call_type-passed hs f types is = ap (λ b. cond b (result_in typing.builtins f types) (helper_result hs f types)) (unknown-in typing.table f is)

-- ---- types

-- the first of several that holds
first-of : (b : Bool) (k : Kind) (rest : Option Kind) (P : Kind → Type 0) → (b ≡ true → P k) → ((u : Kind) → rest ≡ Some u → P u) → (t : Kind) → cond b (Some k) rest ≡ Some t → P t
first-of true k rest P here there t is = subst P (some-same is) (here refl)
first-of false k rest P here there t is = there t is

none-of : (P : Kind → Type 0) (t : Kind) → None ≡ Some t → P t
none-of P t is = cc

choice-kind : (k : Kind) (args : List Value) → list_all is_capped args ≡ true → same_types (kind.Truth ∷ k ∷ k ∷ []) (map kind_of args) ≡ true → Is k (cond (truth_in (at args 0)) (at args 1) (at args 2))
choice-kind k (a ∷ b ∷ d ∷ []) capped is =
    let same : kind.Truth ∷ k ∷ k ∷ [] ≡ map kind_of (a ∷ b ∷ d ∷ []) = same_types-is _ _ is in
    elim (truth_in a) as (λ c. Is k (cond c b d)) [
      | true ↦ (cc, at-capped (a ∷ b ∷ d ∷ []) 1 capped)
      | false ↦ (cc, at-capped (a ∷ b ∷ d ∷ []) 2 capped)
    ]
choice-kind k [] capped is = cc
choice-kind k (a ∷ []) capped is = let same : kind.Truth ∷ k ∷ k ∷ [] ≡ map kind_of (a ∷ []) = same_types-is _ _ is in cc
choice-kind k (a ∷ b ∷ []) capped is = let same : kind.Truth ∷ k ∷ k ∷ [] ≡ map kind_of (a ∷ b ∷ []) = same_types-is _ _ is in cc
choice-kind k (a ∷ b ∷ d ∷ e ∷ more) capped is = let same : kind.Truth ∷ k ∷ k ∷ [] ≡ map kind_of (a ∷ b ∷ d ∷ e ∷ more) = same_types-is _ _ is in cc

num_found-is : (o : Option Value) → Is kind.Num (num_found o)
num_found-is (Some (value.Num n)) = (refl, capped-le _ (omega arith))
num_found-is _ = (refl, refl)

truth_found-is : (o : Option Value) → Is kind.Truth (truth_found o)
truth_found-is (Some (value.Truth n)) = (refl, refl)
truth_found-is _ = (refl, refl)

symbol_found-is : (o : Option Value) → Is kind.Symbol (symbol_found o)
symbol_found-is (Some (value.Sym n)) = (refl, refl)
symbol_found-is _ = (refl, refl)

set_found-is : (o : Option Value) → Is kind.Set (set_found o)
set_found-is (Some (value.Set n)) = (refl, refl)
set_found-is _ = (refl, refl)

list_found-is : (o : Option Value) → Is kind.List (list_found o)
list_found-is (Some (value.List n)) = (refl, refl)
list_found-is _ = (refl, refl)

-- one of four signatures with one result
one-of-four : (a b c d : Bool) (k t : Kind) → cond a (Some k) (cond b (Some k) (cond c (Some k) (cond d (Some k) None))) ≡ Some t → k ≡ t
one-of-four true b c d k t is = some-same is
one-of-four false true c d k t is = some-same is
one-of-four false false true d k t is = some-same is
one-of-four false false false true k t is = some-same is
one-of-four false false false false k t is = cc

four : (ts : List Kind) (k t : Kind)
    → cond (same_types (kind.Symbol ∷ kind.Symbol ∷ []) ts) (Some k) (cond (same_types (kind.Symbol ∷ kind.Symbol ∷ kind.Symbol ∷ []) ts) (Some k)
    (cond (same_types (kind.Symbol ∷ kind.Symbol ∷ kind.Symbol ∷ kind.Symbol ∷ []) ts) (Some k) (cond (same_types (kind.Symbol ∷ kind.Symbol ∷ kind.Symbol ∷ kind.Symbol ∷ kind.Symbol ∷ []) ts) (Some k) None))) ≡ Some t → k ≡ t
four ts k t is =
    one-of-four (same_types (kind.Symbol ∷ kind.Symbol ∷ []) ts) (same_types (kind.Symbol ∷ kind.Symbol ∷ kind.Symbol ∷ []) ts) (same_types (kind.Symbol ∷ kind.Symbol ∷ kind.Symbol ∷ kind.Symbol ∷ []) ts)
    (same_types (kind.Symbol ∷ kind.Symbol ∷ kind.Symbol ∷ kind.Symbol ∷ kind.Symbol ∷ []) ts) k t is

is-of : (k t : Kind) (v : Value) → Is k v → k ≡ t → Is t v
is-of k t v is same = (is.0 ∙ same, is.1)

builtin-is : (catalog : Catalog) (g : Builtin) (args : List Value) (t : Kind) → list_all is_capped args ≡ true → result_in typing.builtins (name_of g) (map kind_of args) ≡ Some t → Is t (builtin_value catalog g args)
builtin-is catalog builtin.If args t capped is =
    let P : Kind → Type 0 = λ k. Is k (builtin_value catalog builtin.If args) in
    first-of _ kind.Num _ P (choice-kind kind.Num args capped)
    (first-of _ kind.Truth _ P (choice-kind kind.Truth args capped)
    (first-of _ kind.Symbol _ P (choice-kind kind.Symbol args capped)
    (first-of _ kind.Set _ P (choice-kind kind.Set args capped)
    (first-of _ kind.List _ P (choice-kind kind.List args capped) (none-of P))))) t is
builtin-is catalog builtin.Not args t capped is = ((cond-some _ kind.Truth t is).1, refl)
builtin-is catalog builtin.Min args t capped is =
    ((cond-some _ kind.Num t is).1, capped-le _ (omega (arith, number-capped (at args 0) (at-capped args 0 capped))))
builtin-is catalog builtin.Max args t capped is =
    ((cond-some _ kind.Num t is).1, capped-le _ (omega (arith, number-capped (at args 0) (at-capped args 0 capped), number-capped (at args 1) (at-capped args 1 capped))))
builtin-is catalog builtin.Log2 args t capped is = ((cond-some _ kind.Num t is).1, log2-capped (number_in (at args 0)))
builtin-is catalog builtin.Union args t capped is = ((cond-some _ kind.Set t is).1, refl)
builtin-is catalog builtin.Minus args t capped is = ((cond-some _ kind.Set t is).1, refl)
builtin-is catalog builtin.Meet args t capped is = ((cond-some _ kind.Set t is).1, refl)
builtin-is catalog builtin.Has args t capped is = ((cond-some _ kind.Truth t is).1, refl)
builtin-is catalog builtin.Subset args t capped is = ((cond-some _ kind.Truth t is).1, refl)
builtin-is catalog builtin.Size args t capped is = ((cond-some _ kind.Num t is).1, capped-le _ (omega arith))
builtin-is catalog builtin.Length args t capped is = ((cond-some _ kind.Num t is).1, capped-le _ (omega arith))
builtin-is catalog builtin.At args t capped is = ((cond-some _ kind.Symbol t is).1, refl)
builtin-is catalog builtin.Prefix args t capped is = ((cond-some _ kind.Truth t is).1, refl)
builtin-is catalog builtin.Concat args t capped is = ((cond-some _ kind.List t is).1, refl)
builtin-is catalog builtin.Elems args t capped is = ((cond-some _ kind.Set t is).1, refl)
builtin-is catalog builtin.NumAt args t capped is = is-of kind.Num t _ (num_found-is (found catalog args)) (four (map kind_of args) kind.Num t is)
builtin-is catalog builtin.TruthAt args t capped is = is-of kind.Truth t _ (truth_found-is (found catalog args)) (four (map kind_of args) kind.Truth t is)
builtin-is catalog builtin.SymbolAt args t capped is = is-of kind.Symbol t _ (symbol_found-is (found catalog args)) (four (map kind_of args) kind.Symbol t is)
builtin-is catalog builtin.SetAt args t capped is = is-of kind.Set t _ (set_found-is (found catalog args)) (four (map kind_of args) kind.Set t is)
builtin-is catalog builtin.ListAt args t capped is = is-of kind.List t _ (list_found-is (found catalog args)) (four (map kind_of args) kind.List t is)

-- calls are sound where those of helpers are
abbrev pub HelpersSound : List Signature → Functions → Type 0
HelpersSound sigs calls = (f : Symbol) (args : List Value) (t : Kind) → list_all is_capped args ≡ true → helper_result sigs f (map kind_of args) ≡ Some t → Is t (calls f args)

pub sound-with_builtins : (catalog : Catalog) (hs : List Signature) (calls : Functions) → HelpersSound hs calls → Sound hs (with_builtins catalog calls)
sound-with_builtins catalog hs calls sound f args t capped is =
    elim (builtin_of f) as (λ o. builtin_of f ≡ o → Is t (meant catalog calls o f args)) [
      | Some g ↦ λ e. builtin-is catalog g args t capped (sym (call_type-known hs f g (map kind_of args) e) ∙ is)
      | None ↦ λ e. sound f args t capped (sym (call_type-passed hs f (map kind_of args) e) ∙ is)
    ] refl

-- ---- results

pub ok-value : {E : Type 0} (r : Result Value E) (x y : Value) → IfOk r (λ v. v ≡ x) → x ≡ y → IfOk r (λ v. v ≡ y)
ok-value (Ok v) x y is same = is ∙ same
ok-value (Err e) x y is same = tt
