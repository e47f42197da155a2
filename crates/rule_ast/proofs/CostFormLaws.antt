-- A call of fewer than two or more than three arguments is no form.
use Rattle.std.proofs.Common.{◌≡◌, ◌<◌, ◌≤◌, Bool, false, List, [], ◌∷◌, length, map, refl, arith}
use Rattle.pr_value.specs.Symbols.{Symbol}
use Rattle.rule_ast.specs.CostForms.{are_cost_forms, call_is_form}
use Rattle.rule_ast.specs.Seen.{seen_expr, exprs_of}
use Rattle.rule_ast.specs.declared.expr.Expr.{Expr}

pub few-arguments : (cost f : Symbol) (plain : Bool) (es : List Expr) → length es < 2 → false ≡ call_is_form f plain (are_cost_forms cost (exprs_of (map seen_expr es)))
few-arguments cost f plain [] few = refl
few-arguments cost f plain (a ∷ []) few = refl
few-arguments cost f plain (a ∷ b ∷ es) few = absurd (omega (arith, few))

pub many-arguments : (cost f : Symbol) (plain : Bool) (es : List Expr) → 4 ≤ length es → false ≡ call_is_form f plain (are_cost_forms cost (exprs_of (map seen_expr es)))
many-arguments cost f plain [] many = absurd (omega (arith, many))
many-arguments cost f plain (a ∷ []) many = absurd (omega (arith, many))
many-arguments cost f plain (a ∷ b ∷ []) many = absurd (omega (arith, many))
many-arguments cost f plain (a ∷ b ∷ c ∷ []) many = absurd (omega (arith, many))
many-arguments cost f plain (a ∷ b ∷ c ∷ d ∷ es) many = refl

pub ruleset other_arguments = (few-arguments, many-arguments)
