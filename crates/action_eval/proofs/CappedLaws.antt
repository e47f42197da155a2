-- Numbers within the cap.
use Rattle.std.proofs.Common.{◌≡◌, ℕ, zero, suc, ◌≤◌, true, false, cond, List, [], ◌∷◌, refl, ap, ◌∙◌, arith}
use Rattle.std.specs.Prelude.{nat_le, min, ◌/◌, ◌^◌, ◌==◌, ◌&&◌}
use Rattle.std.specs.Str.{bytes_eq}
use Rattle.std.specs.List.{list_all}
use Rattle.std.specs.Cmp.{first_so, second_so}
use Rattle.std.proofs.lemmas.Bool.Decides.{nat_tests}
use Rattle.pr_value.specs.Capped.{cap, capped_div, log2, log2_up_to}
use Rattle.pr_value.specs.Symbols.{Symbol}
use Rattle.pr_value.specs.Values.{is_capped, number_in, members_in}
use Rattle.pr_value.specs.declared.value.Value.{Value}
use Rattle.pr_value.specs.declared.value.Value.TheVariants as value
use Rattle.rule_ast.specs.declared.parts.Param.{Param}
use Rattle.rule_ast.specs.declared.expr.BinOp.{BinOp}
use Rattle.rule_ast.specs.declared.expr.BinOp.TheVariants as op
use Rattle.rule_ast.specs.declared.expr.FoldKind.{FoldKind}
use Rattle.rule_ast.specs.declared.expr.FoldKind.TheVariants as folding
use Rattle.action_eval.specs.Builtins.{at, binary_value, total, product, collection, kept, fold_value}
use Rattle.action_eval.specs.Meaning.{value_in, bound}

pub capped-le : (n : ℕ) → n ≤ cap → is_capped (value.Num n) ≡ true
capped-le n within = grind (arith, nat_tests)

pub number-capped : (v : Value) → is_capped v ≡ true → number_in v ≤ cap
number-capped (value.Num n) is = grind (arith, nat_tests)
number-capped (value.Truth b) is = omega arith
number-capped (value.Sym s) is = omega arith
number-capped (value.Set ss) is = omega arith
number-capped (value.List ss) is = omega arith

pub at-capped : (args : List Value) (i : ℕ) → list_all is_capped args ≡ true → is_capped (at args i) ≡ true
at-capped [] i all = refl
at-capped (a ∷ args) zero all = first_so (is_capped a) (list_all is_capped args) all
at-capped (a ∷ args) (suc i) all = at-capped args i (second_so (is_capped a) (list_all is_capped args) all)

log2_up_to-le : (n x : ℕ) → log2_up_to n x ≤ n
unfolding log2_up_to
log2_up_to-le zero x = omega arith
log2_up_to-le (suc n) x =
    elim (nat_le (2 ^ suc n) x) as (λ b. cond b (suc n) (log2_up_to n x) ≤ suc n) [
      | true ↦ omega arith
      | false ↦ omega (arith, log2_up_to-le n x)
    ]

pub log2-capped : (x : ℕ) → is_capped (value.Num (log2 x)) ≡ true
log2-capped x = capped-le (log2 x) (omega (arith, log2_up_to-le 63 x))

div-le : (m n : ℕ) → capped_div m n ≤ cap
div-le m n = elim (n == 0) as (λ b. cond b cap (min (m / n) cap) ≤ cap) [ true ↦ omega arith | false ↦ omega arith ]

-- what an operator gives
pub capped-binary : (o : BinOp) (a b : Value) → is_capped (binary_value o a b) ≡ true
capped-binary op.Add a b = capped-le _ (omega arith)
capped-binary op.Sub a b = capped-le _ (omega arith)
capped-binary op.Mul a b = capped-le _ (omega arith)
capped-binary op.Div a b = capped-le _ (div-le (number_in a) (number_in b))
capped-binary op.Equal a b = refl
capped-binary op.NotEqual a b = refl
capped-binary op.Less a b = refl
capped-binary op.LessEqual a b = refl
capped-binary op.Greater a b = refl
capped-binary op.GreaterEqual a b = refl
capped-binary op.And a b = refl
capped-binary op.Or a b = refl

total-le : (each : Symbol → Value) (ss : List Symbol) → total each ss ≤ cap
total-le each [] = omega arith
total-le each (s ∷ ss) = omega arith

product-le : (each : Symbol → Value) (ss : List Symbol) → product each ss ≤ cap
product-le each [] = omega arith
product-le each (s ∷ ss) = omega arith

collection-capped : (over : Value) (ss : List Symbol) → is_capped (collection over ss) ≡ true
collection-capped (value.Num n) ss = refl
collection-capped (value.Truth b) ss = refl
collection-capped (value.Sym s) ss = refl
collection-capped (value.Set ts) ss = refl
collection-capped (value.List ts) ss = refl

-- what a fold gives
pub capped-fold : (k : FoldKind) (over : Value) (each : Symbol → Value) → is_capped (fold_value k over each) ≡ true
capped-fold folding.Sum over each = capped-le _ (total-le each (members_in over))
capped-fold folding.Product over each = capped-le _ (product-le each (members_in over))
capped-fold folding.Any over each = refl
capped-fold folding.All over each = refl
capped-fold folding.Keep over each = collection-capped over (kept each (members_in over))

-- what a name stands for
pub value_in-capped : (vs : List (Symbol × Value)) (x : Symbol) → list_all (λ v. is_capped v.1) vs ≡ true → is_capped (value_in vs x) ≡ true
value_in-capped [] x all = refl
value_in-capped (v ∷ vs) x all =
    elim (bytes_eq v.0 x) as (λ b. is_capped (cond b v.1 (value_in vs x)) ≡ true) [
      | true ↦ first_so (is_capped v.1) (list_all (λ v. is_capped v.1) vs) all
      | false ↦ value_in-capped vs x (second_so (is_capped v.1) (list_all (λ v. is_capped v.1) vs) all)
    ]

pub bound-capped : (ps : List Param) (vs : List Value) → list_all is_capped vs ≡ true → list_all (λ v. is_capped v.1) (bound ps vs) ≡ true
bound-capped [] vs all = refl
bound-capped (p ∷ ps) [] all = refl
bound-capped (p ∷ ps) (v ∷ vs) all =
    ap (λ b. b && list_all (λ v. is_capped v.1) (bound ps vs)) (first_so (is_capped v) (list_all is_capped vs) all) ∙ bound-capped ps vs (second_so (is_capped v) (list_all is_capped vs) all)
