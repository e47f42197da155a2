-- What reads no cost has the same value where only costs differ.
use Rattle.std.proofs.Common.{◌≡◌, Bool, true, false, ◌||◌, List, ◌∷◌, refl, ap, ap₂}
use Rattle.std.proofs.Math.Path.{fun_ext}
use Rattle.std.specs.Str.{bytes_eq}
use Rattle.pr_value.specs.Symbols.{Symbol}
use Rattle.pr_value.specs.SymbolSets as sets
use Rattle.pr_value.specs.declared.value.Value.{Value}
use Rattle.pr_value.specs.declared.value.Value.TheVariants as value
use Rattle.descriptor_types.specs.Descriptors.{Desc, Layout, value_of}
use Rattle.rule_ast.specs.CostForms.{reads_cost, any_reads_cost}
use Rattle.rule_ast.specs.Syntax.{Expr, number, truth, symbol, set_of, list_of, var, read, call, binary, fold, Exprs}
use Rattle.rule_ast.specs.Syntax as syntax
use Rattle.action_eval.specs.Builtins.{Functions, binary_value, fold_value, symbols_in}
use Rattle.action_eval.specs.Meaning.{Scope, desc_in, value_by, values_by}

pub or_first : (p q : Bool) → (p || q) ≡ false → p ≡ false
or_first true q h = h
or_first false q h = refl

pub or_second : (p q : Bool) → (p || q) ≡ false → q ≡ false
or_second true q h = cc
or_second false q h = h

-- the descriptors of each name have the same value of each property but one
abbrev pub SameBut : Layout → Symbol → List (Symbol × Desc) → List (Symbol × Desc) → Type 0
SameBut layout cost ds es = (d p : Symbol) → bytes_eq p cost ≡ false → value_of layout p (desc_in ds d) ≡ value_of layout p (desc_in es d)

abbrev pub scope : List (Symbol × Desc) → List (Symbol × Value) → Scope
scope ds vs = record { descs = ds; values = vs }

module _ (layout : Layout) (calls : Functions) (cost : Symbol) (ds es : List (Symbol × Desc)) (same : SameBut layout cost ds es) where
  mutual
    pub plain_value : (e : Expr) (vs : List (Symbol × Value)) → reads_cost cost e ≡ false → value_by layout calls (scope ds vs) e ≡ value_by layout calls (scope es vs) e
    plain_value (number n) vs plain = refl
    plain_value (truth b) vs plain = refl
    plain_value (symbol s) vs plain = refl
    plain_value (set_of xs) vs plain = ap (λ ys. value.Set (sets.set_of (symbols_in ys))) (plain_values xs vs plain)
    plain_value (list_of xs) vs plain = ap (λ ys. value.List (symbols_in ys)) (plain_values xs vs plain)
    plain_value (var x) vs plain = refl
    plain_value (read d p) vs plain = same d p plain
    plain_value (call f xs) vs plain = ap (calls f) (plain_values xs vs plain)
    plain_value (binary a o b) vs plain =
        ap₂ (binary_value o) (plain_value a vs (or_first _ _ plain)) (plain_value b vs (or_second _ _ plain))
    plain_value (fold k x over each) vs plain =
        ap₂ (fold_value k) (plain_value over vs (or_first _ _ plain)) (fun_ext (λ s. plain_value each ((x, value.Sym s) ∷ vs) (or_second _ _ plain)))

    pub plain_values : (xs : Exprs) (vs : List (Symbol × Value)) → any_reads_cost cost xs ≡ false → values_by layout calls (scope ds vs) xs ≡ values_by layout calls (scope es vs) xs
    plain_values syntax.nil vs plain = refl
    plain_values (syntax.cons x xs) vs plain = ap₂ (λ y ys. y ∷ ys) (plain_value x vs (or_first _ _ plain)) (plain_values xs vs (or_second _ _ plain))
