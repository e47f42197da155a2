-- The parts of a cost expression, and the forms that are made of theirs, as the code comes to them.
use Rattle.std.proofs.Common.{◌≡◌, ℕ, ◌<◌, ◌≤◌, Bool, true, false, List, [], ◌∷◌, length, map, get_or, Some, ◌⊎◌, inl, inr, refl, sym, ap, ap₂, ◌∙◌, subst, subst₂, arith}
use Rattle.std.specs.Prelude.{codes}
use Rattle.std.specs.Str.{bytes_eq}
use Rattle.std.proofs.lemmas.Bool.{false≢true}
use Rattle.pr_value.specs.Symbols.{Symbol}
use Rattle.pr_value.specs.Values.{truth_in}
use Rattle.pr_value.specs.declared.kind.Kind.TheVariants as kind
use Rattle.catalog.specs.Contents.{Catalog}
use Rattle.rule_ast.specs.CostForms.{is_cost_form, are_cost_forms, call_is_form}
use Rattle.rule_ast.specs.declared.expr.BinOp.{BinOp}
use Rattle.rule_ast.specs.declared.expr.BinOp.TheVariants as op
use Rattle.rule_ast.specs.declared.expr.Expr as rust
use Rattle.rule_ast.specs.declared.expr.Expr.TheVariants as variant
use Rattle.rule_ast.specs.Seen.{seen_expr, exprs_of}
use Rattle.rule_ast.specs.Syntax.{Expr, read, call, binary}
use Rattle.rule_ast.proofs.SeenLaws.{seen_read, seen_call, seen_binary}
use Rattle.action_eval.specs.Cost as cost
use Rattle.action_eval.specs.Environments.{Env, type_in, value_here}
use Rattle.action_eval.specs.FormOf.{IsCost, IsFormOf}
use Rattle.action_eval.specs.Forms.{cost_in, number_here, place}
use Rattle.action_eval.specs.SeenForms.{seen_form}
use Rattle.action_eval.specs.declared.cost_forms.form.CostForm as form
use Rattle.action_eval.specs.declared.cost_forms.form.CostForm.TheVariants as forms
use Rattle.action_eval.proofs.CostParts.{Reads, Plain, form_inside, sum_parts, multiple_parts, two_parts, three_parts}
use Rattle.action_eval.proofs.FormLaws.{number_is, input_is, sum_is, multiple_is, greater_is, lesser_is, first_is, second_is}
use Rattle.action_eval.proofs.SeenFormLaws.{seen_number, seen_input, seen_sum, seen_greater, seen_lesser, seen_multiple}
use Rattle.action_eval.proofs.CostTypes.{two, three}
use Rattle.action_eval.proofs.WithCostLaws.{same_symbol}

-- ---- expressions as they are seen

pub binary_seen : {e a b x y : rust.Expr} {o p : BinOp} → e ≡ variant.Binary a o b → o ≡ p → x ≡ a → y ≡ b → seen_expr e ≡ binary (seen_expr x) p (seen_expr y)
binary_seen {e} {a} {b} {x} {y} {o} {p} is same left right =
    ap seen_expr is ∙ seen_binary a o b ∙ ap (λ q. binary (seen_expr a) q (seen_expr b)) same ∙ sym (ap₂ (λ u v. binary (seen_expr u) p (seen_expr v)) left right)

pub read_seen : {e : rust.Expr} {d p : Symbol} → e ≡ variant.Read d p → seen_expr e ≡ read d p
read_seen {e} {d} {p} is = ap seen_expr is ∙ seen_read d p

list_of_two : (xs : List rust.Expr) (a b : rust.Expr) → 2 ≤ length xs → length xs < 3 → a ≡ get_or xs 0 a → b ≡ get_or xs 1 b → xs ≡ a ∷ b ∷ []
list_of_two [] a b least below first second = absurd (omega (arith, least))
list_of_two (x ∷ []) a b least below first second = absurd (omega (arith, least))
list_of_two (x ∷ y ∷ []) a b least below first second = sym (ap₂ (λ u v. u ∷ v ∷ []) first second)
list_of_two (x ∷ y ∷ z ∷ xs) a b least below first second = absurd (omega (arith, below))

list_of_three : (xs : List rust.Expr) (t a b : rust.Expr) → 3 ≤ length xs → length xs < 4 → t ≡ get_or xs 0 t → a ≡ get_or xs 1 a → b ≡ get_or xs 2 b → xs ≡ t ∷ a ∷ b ∷ []
list_of_three [] t a b least below first second third = absurd (omega (arith, least))
list_of_three (x ∷ []) t a b least below first second third = absurd (omega (arith, least))
list_of_three (x ∷ y ∷ []) t a b least below first second third = absurd (omega (arith, least))
list_of_three (x ∷ y ∷ z ∷ []) t a b least below first second third = sym (ap (λ u. u ∷ a ∷ b ∷ []) first ∙ ap₂ (λ v w. x ∷ v ∷ w ∷ []) second third)
list_of_three (x ∷ y ∷ z ∷ w ∷ xs) t a b least below first second third = absurd (omega (arith, below))

pub two_seen : {e : rust.Expr} {f : Symbol} {args xs : List rust.Expr} {a b : rust.Expr} → e ≡ variant.Call f args → xs ≡ args → 2 ≤ length xs → length xs < 3 → a ≡ get_or xs 0 a → b ≡ get_or xs 1 b
    → seen_expr e ≡ call f (two (seen_expr a) (seen_expr b))
two_seen {e} {f} {args} {xs} {a} {b} is same least below first second =
    ap seen_expr is ∙ seen_call f args ∙ ap (λ ys. call f (exprs_of (map seen_expr ys))) (sym same ∙ list_of_two xs a b least below first second)

pub three_seen : {e : rust.Expr} {f : Symbol} {args xs : List rust.Expr} {t a b : rust.Expr} → e ≡ variant.Call f args → xs ≡ args → 3 ≤ length xs → length xs < 4 → t ≡ get_or xs 0 t → a ≡ get_or xs 1 a → b ≡ get_or xs 2 b
    → seen_expr e ≡ call f (three (seen_expr t) (seen_expr a) (seen_expr b))
three_seen {e} {f} {args} {xs} {t} {a} {b} is same least below first second third =
    ap seen_expr is ∙ seen_call f args ∙ ap (λ ys. call f (exprs_of (map seen_expr ys))) (sym same ∙ list_of_three xs t a b least below first second third)

-- ---- what is asked of the parts

module _ {names : List Symbol} {env : Env} {s : Expr} (asked : IsCost names env s) (reads : Reads env s) where
  pub sum_asked : {a b : Expr} → s ≡ binary a op.Add b → IsCost names env a × IsCost names env b
  sum_asked {a} {b} is = sum_parts names env a b (subst (IsCost names env) is asked) (subst (Reads env) is reads)

  pub multiple_asked : {a b : Expr} → s ≡ binary a op.Mul b → (type_in env a ≡ Some kind.Num) × Plain env a × IsCost names env b
  multiple_asked {a} {b} is = multiple_parts names env a b (subst (IsCost names env) is asked) (subst (Reads env) is reads)

  pub two_asked : {f : Symbol} {a b : Expr} → s ≡ call f (two a b) → ((f ≡ codes "max") ⊎ (f ≡ codes "min")) × IsCost names env a × IsCost names env b
  two_asked {f} {a} {b} is = two_parts names env f a b (subst (IsCost names env) is asked) (subst (Reads env) is reads)

  pub three_asked : {f : Symbol} {t a b : Expr} → s ≡ call f (three t a b) → (f ≡ codes "if") × (type_in env t ≡ Some kind.Truth) × Plain env t × IsCost names env a × IsCost names env b
  three_asked {f} {t} {a} {b} is = three_parts names env f t a b (subst (IsCost names env) is asked) (subst (Reads env) is reads)

-- a call of fewer than two or more than three arguments is no form
other_arguments : (cost f : Symbol) (plain : Bool) (xs : List rust.Expr) → (length xs < 2) ⊎ (4 ≤ length xs) → call_is_form f plain (are_cost_forms cost (exprs_of (map seen_expr xs))) ≡ false
other_arguments cost f plain [] other = refl
other_arguments cost f plain (x ∷ []) other = refl
other_arguments cost f plain (x ∷ y ∷ []) (inl few) = absurd (omega (arith, few))
other_arguments cost f plain (x ∷ y ∷ []) (inr many) = absurd (omega (arith, many))
other_arguments cost f plain (x ∷ y ∷ z ∷ []) (inl few) = absurd (omega (arith, few))
other_arguments cost f plain (x ∷ y ∷ z ∷ []) (inr many) = absurd (omega (arith, many))
other_arguments cost f plain (x ∷ y ∷ z ∷ w ∷ xs) other = refl

pub no_other_arguments : {names : List Symbol} {env : Env} {e : rust.Expr} {f : Symbol} {args xs : List rust.Expr} → IsCost names env (seen_expr e) → Reads env (seen_expr e) → e ≡ variant.Call f args → xs ≡ args
    → (length xs < 2) ⊎ (4 ≤ length xs) → ⊥
no_other_arguments {names} {env} {e} {f} {args} {xs} asked reads is same other =
    let seen : seen_expr e ≡ call f (exprs_of (map seen_expr xs)) = ap seen_expr is ∙ seen_call f args ∙ ap (λ ys. call f (exprs_of (map seen_expr ys))) (sym same) in
    let form = form_inside _ _ (subst (λ s. is_cost_form (cost_in env) s ≡ true) seen asked.form) (subst (Reads env) seen reads) in
    false≢true (sym (other_arguments (cost_in env) f _ xs other) ∙ form)

-- ---- the forms that are made

module _ {names : List Symbol} {count : ℕ} {env : Env} {catalog : Catalog} {s : Expr} where
  pub number_made : {n : ℕ} → Plain env s → n ≡ number_here env catalog s → n ≤ 1000000000000000000 → IsFormOf names count env catalog s (seen_form (forms.Number n))
  number_made {n} plain is small = subst (IsFormOf names count env catalog s) (sym (seen_number n)) (number_is names count env catalog s n plain is small)

  module _ (reads : Reads env s) where
    pub sum_made : {a b : Expr} {f g x y : form.CostForm} → s ≡ binary a op.Add b → x ≡ f → y ≡ g → IsFormOf names count env catalog a (seen_form f) → IsFormOf names count env catalog b (seen_form g)
        → IsFormOf names count env catalog s (seen_form (forms.Sum x y))
    sum_made {a} {b} {f} {g} {x} {y} is left right first second =
        let seen = seen_sum x y ∙ ap₂ (λ u v. cost.sum (seen_form u) (seen_form v)) left right in
        subst₂ (IsFormOf names count env catalog) (sym is) (sym seen) (sum_is names count env catalog a b (seen_form f) (seen_form g) (subst (Reads env) is reads) first second)

    pub multiple_made : {a b : Expr} {n : ℕ} {g y : form.CostForm} → s ≡ binary a op.Mul b → y ≡ g → Plain env a → n ≡ number_here env catalog a → IsFormOf names count env catalog b (seen_form g)
        → IsFormOf names count env catalog s (seen_form (forms.Multiple n y))
    multiple_made {a} {b} {n} {g} {y} is right plain number second =
        let seen = seen_multiple n y ∙ ap (λ v. cost.multiple n (seen_form v)) right in
        subst₂ (IsFormOf names count env catalog) (sym is) (sym seen) (multiple_is names count env catalog a b n (seen_form g) (subst (Reads env) is reads) plain number second)

    pub greater_made : {h : Symbol} {a b : Expr} {f g x y : form.CostForm} → s ≡ call h (two a b) → bytes_eq h (codes "max") ≡ true → x ≡ f → y ≡ g → IsFormOf names count env catalog a (seen_form f)
        → IsFormOf names count env catalog b (seen_form g) → IsFormOf names count env catalog s (seen_form (forms.Greater x y))
    greater_made {h} {a} {b} {f} {g} {x} {y} is name left right first second =
        let max : s ≡ call (codes "max") (two a b) = is ∙ ap (λ n. call n (two a b)) (same_symbol h (codes "max") name) in
        let seen = seen_greater x y ∙ ap₂ (λ u v. cost.greater (seen_form u) (seen_form v)) left right in
        subst₂ (IsFormOf names count env catalog) (sym max) (sym seen) (greater_is names count env catalog a b (seen_form f) (seen_form g) (subst (Reads env) max reads) first second)

    pub lesser_made : {h : Symbol} {a b : Expr} {f g x y : form.CostForm} → s ≡ call h (two a b) → bytes_eq h (codes "max") ≡ false → IsCost names env s → x ≡ f → y ≡ g → IsFormOf names count env catalog a (seen_form f)
        → IsFormOf names count env catalog b (seen_form g) → IsFormOf names count env catalog s (seen_form (forms.Lesser x y))
    lesser_made {h} {a} {b} {f} {g} {x} {y} is other asked left right first second =
        let min : s ≡ call (codes "min") (two a b) = is ∙ ap (λ n. call n (two a b)) (name (two_asked asked reads is).0) in
        let seen = seen_lesser x y ∙ ap₂ (λ u v. cost.lesser (seen_form u) (seen_form v)) left right in
        subst₂ (IsFormOf names count env catalog) (sym min) (sym seen) (lesser_is names count env catalog a b (seen_form f) (seen_form g) (subst (Reads env) min reads) first second)
      where
        name : (h ≡ codes "max") ⊎ (h ≡ codes "min") → h ≡ codes "min"
        name (inl max) = absurd (false≢true (sym other ∙ ap (λ n. bytes_eq n (codes "max")) max))
        name (inr min) = min

    pub input_made : {d p : Symbol} {i : ℕ} → s ≡ read d p → count ≡ length names → IsCost names env s → i ≡ place names d → IsFormOf names count env catalog s (seen_form (forms.Input i))
    input_made {d} {p} {i} is full asked same =
        let seen = seen_input i ∙ ap cost.input same in
        subst₂ (IsFormOf names count env catalog) (sym is) (sym seen) (input_is names count env catalog d p full (subst (IsCost names env) is asked) (subst (Reads env) is reads))

    pub first_made : {h : Symbol} {t a b : Expr} {f : cost.CostForm} → s ≡ call h (three t a b) → IsCost names env s → true ≡ truth_in (value_here env catalog t) → IsFormOf names count env catalog a f
        → IsFormOf names count env catalog s f
    first_made {h} {t} {a} {b} {f} is asked holds part =
        let parts = three_asked asked reads is in
        let choice : s ≡ call (codes "if") (three t a b) = is ∙ ap (λ n. call n (three t a b)) parts.0 in
        subst (λ e. IsFormOf names count env catalog e f) (sym choice) (first_is names count env catalog t a b f (subst (Reads env) choice reads) parts.2 holds part)

    pub second_made : {h : Symbol} {t a b : Expr} {f : cost.CostForm} → s ≡ call h (three t a b) → IsCost names env s → false ≡ truth_in (value_here env catalog t) → IsFormOf names count env catalog b f
        → IsFormOf names count env catalog s f
    second_made {h} {t} {a} {b} {f} is asked fails part =
        let parts = three_asked asked reads is in
        let choice : s ≡ call (codes "if") (three t a b) = is ∙ ap (λ n. call n (three t a b)) parts.0 in
        subst (λ e. IsFormOf names count env catalog e f) (sym choice) (second_is names count env catalog t a b f (subst (Reads env) choice reads) parts.2 fails part)
