-- The parts of a cost expression that reads a cost.
use Rattle.std.proofs.Common.{◌≡◌, Bool, true, false, not, ◌&&◌, ◌||◌, List, Some, ◌⊎◌, inl, inr, refl, subst}
use Rattle.std.specs.Prelude.{codes}
use Rattle.std.specs.Cmp.{first_so, second_so}
use Rattle.std.specs.Str.{bytes_eq}
use Rattle.std.proofs.lemmas.Bool.{false≢true, not-true}
use Rattle.pr_value.specs.Symbols.{Symbol}
use Rattle.pr_value.specs.declared.kind.Kind.TheVariants as kind
use Rattle.pr_value.specs.SymbolSets.{contains}
use Rattle.rule_ast.specs.Reads.{any_read}
use Rattle.rule_ast.specs.CostForms.{reads_cost, is_cost_form}
use Rattle.rule_ast.specs.declared.expr.BinOp.TheVariants as op
use Rattle.rule_ast.specs.Syntax.{Expr, call, binary}
use Rattle.rule_ast.specs.Typing.{signatures_of}
use Rattle.action_eval.specs.Environments.{Env, type_in, context_of}
use Rattle.action_eval.specs.FormOf.{IsCost}
use Rattle.action_eval.specs.Forms.{cost_in}
use Rattle.action_eval.proofs.CostTypes.{two, three, add_types, mul_types, max_types, min_types, if_types}
use Rattle.action_eval.proofs.WithCostLaws.{same_symbol}

-- what reads a cost is of one of the forms
pub form_inside : (reads p : Bool) → (not reads || p) ≡ true → reads ≡ true → p ≡ true
form_inside true p form is = form
form_inside false p form is = absurd (false≢true is)

either : (p q : Bool) → (p || q) ≡ true → (p ≡ true) ⊎ (q ≡ true)
either true q h = inl refl
either false q h = inr h

-- where neither of two holds, the one does not, nor the other
neither_first : (p q : Bool) → not (p || q) ≡ true → not p ≡ true
neither_first true q is = is
neither_first false q is = refl

neither_second : (p q : Bool) → not (p || q) ≡ true → not q ≡ true
neither_second true q is = absurd (false≢true is)
neither_second false q is = is

abbrev pub Reads : Env → Expr → Type 0
Reads env e = reads_cost (cost_in env) e ≡ true

abbrev pub Plain : Env → Expr → Type 0
Plain env e = reads_cost (cost_in env) e ≡ false

module _ (names : List Symbol) (env : Env) where
  pub sum_parts : (a b : Expr) → IsCost names env (binary a op.Add b) → Reads env (binary a op.Add b) → IsCost names env a × IsCost names env b
  sum_parts a b is reads =
      let types = add_types env.rules.properties (signatures_of env.rules.helpers) (context_of env) a b is.typed in
      let forms = form_inside _ _ is.form reads in
      (record { sound = is.sound; different = is.different; typed = types.0; form = first_so _ _ forms; of_inputs = neither_first _ _ is.of_inputs }, record { sound = is.sound; different = is.different; typed = types.1; form = second_so _ _ forms; of_inputs = neither_second _ _ is.of_inputs })

  pub multiple_parts : (a b : Expr) → IsCost names env (binary a op.Mul b) → Reads env (binary a op.Mul b) → (type_in env a ≡ Some kind.Num) × Plain env a × IsCost names env b
  multiple_parts a b is reads =
      let types = mul_types env.rules.properties (signatures_of env.rules.helpers) (context_of env) a b is.typed in
      let forms = form_inside _ _ is.form reads in
      (types.0, not-true _ (first_so _ _ forms), record { sound = is.sound; different = is.different; typed = types.1; form = second_so _ _ forms; of_inputs = neither_second _ _ is.of_inputs })

  pub two_parts : (f : Symbol) (a b : Expr) → IsCost names env (call f (two a b)) → Reads env (call f (two a b)) → ((f ≡ codes "max") ⊎ (f ≡ codes "min")) × IsCost names env a × IsCost names env b
  two_parts f a b is reads = by_name (either _ _ (first_so _ _ (first_so _ _ forms))) where
    forms : (((bytes_eq f (codes "max") || bytes_eq f (codes "min")) && is_cost_form (cost_in env) a) && is_cost_form (cost_in env) b) ≡ true
    forms = form_inside _ _ is.form reads

    by_name : (bytes_eq f (codes "max") ≡ true) ⊎ (bytes_eq f (codes "min") ≡ true) → ((f ≡ codes "max") ⊎ (f ≡ codes "min")) × IsCost names env a × IsCost names env b
    by_name (inl max) =
        let types = max_types env.rules.properties (signatures_of env.rules.helpers) (context_of env) a b (subst (λ g. type_in env (call g (two a b)) ≡ Some kind.Num) (same_symbol f (codes "max") max) is.typed) in (
          inl (same_symbol f (codes "max") max),
          record { sound = is.sound; different = is.different; typed = types.0; form = second_so _ _ (first_so _ _ forms); of_inputs = neither_first _ _ is.of_inputs },
          record { sound = is.sound; different = is.different; typed = types.1; form = second_so _ _ forms; of_inputs = neither_first _ _ (neither_second _ _ is.of_inputs) },
        )
    by_name (inr min) =
        let types = min_types env.rules.properties (signatures_of env.rules.helpers) (context_of env) a b (subst (λ g. type_in env (call g (two a b)) ≡ Some kind.Num) (same_symbol f (codes "min") min) is.typed) in (
          inr (same_symbol f (codes "min") min),
          record { sound = is.sound; different = is.different; typed = types.0; form = second_so _ _ (first_so _ _ forms); of_inputs = neither_first _ _ is.of_inputs },
          record { sound = is.sound; different = is.different; typed = types.1; form = second_so _ _ forms; of_inputs = neither_first _ _ (neither_second _ _ is.of_inputs) },
        )

  pub three_parts : (f : Symbol) (t a b : Expr) → IsCost names env (call f (three t a b)) → Reads env (call f (three t a b)) → (f ≡ codes "if") × (type_in env t ≡ Some kind.Truth) × Plain env t × IsCost names env a × IsCost names env b
  three_parts f t a b is reads =
      let forms : (((bytes_eq f (codes "if") && not (reads_cost (cost_in env) t)) && is_cost_form (cost_in env) a) && is_cost_form (cost_in env) b) ≡ true = form_inside _ _ is.form reads in
      let other : Expr → Bool = any_read (λ d p. bytes_eq p (cost_in env) && not (contains names d)) in
      let rest : not (other a || (other b || false)) ≡ true = neither_second (other t) (other a || (other b || false)) is.of_inputs in
      let head = first_so _ _ (first_so _ _ forms) in
      let name : f ≡ codes "if" = same_symbol f (codes "if") (first_so _ _ head) in
      let types = if_types env.rules.properties (signatures_of env.rules.helpers) (context_of env) t a b (subst (λ g. type_in env (call g (three t a b)) ≡ Some kind.Num) name is.typed) in (
        name,
        types.0,
        not-true _ (second_so _ _ head),
        record { sound = is.sound; different = is.different; typed = types.1; form = second_so _ _ (first_so _ _ forms); of_inputs = neither_first (other a) _ rest },
        record { sound = is.sound; different = is.different; typed = types.2; form = second_so _ _ forms; of_inputs = neither_first (other b) false (neither_second (other a) (other b || false) rest) },
      )
