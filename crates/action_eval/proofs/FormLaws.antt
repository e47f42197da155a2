-- The form of each kind of cost expression, and what it comes to where the inputs have other costs.
use Rattle.std.proofs.Common.{◌≡◌, ℕ, suc, ◌<◌, ◌≤◌, min, max, Bool, true, false, not, ◌&&◌, ◌||◌, List, [], ◌∷◌, length, Some, refl, sym, ap, ap₂, ◌∙◌, subst, arith}
use Rattle.std.specs.Prelude.{codes, if◌then◌else◌}
use Rattle.std.specs.Cmp.Derive.{both_true}
use Rattle.std.specs.Str.{bytes_eq}
use Rattle.std.proofs.lemmas.Bool.{false≢true, lt-ltb, leb-true}
use Rattle.pr_value.specs.Capped.{cap, capped_add, capped_mul}
use Rattle.pr_value.specs.Symbols.{Symbol}
use Rattle.pr_value.specs.SymbolSets.{contains}
use Rattle.pr_value.specs.Values.{has_kind, number_in, truth_in}
use Rattle.pr_value.specs.declared.kind.Kind.TheVariants as kind
use Rattle.pr_value.specs.declared.value.Value.{Value}
use Rattle.pr_value.specs.declared.value.Value.TheVariants as value
use Rattle.catalog.specs.Contents.{Catalog}
use Rattle.descriptor_types.specs.Descriptors.{fits, value_of}
use Rattle.rule_ast.specs.declared.expr.BinOp.TheVariants as op
use Rattle.rule_ast.specs.Syntax.{Expr, number, truth, symbol, set_of, list_of, var, read, call, binary, fold}
use Rattle.rule_ast.specs.Typing.{signatures_of, property_kind}
use Rattle.action_eval.specs.Meaning.{functions, desc_in}
use Rattle.action_eval.specs.Environments.{Env, context_of, value_here}
use Rattle.action_eval.specs.Cost as cost
use Rattle.action_eval.specs.Cost.{CostForm, cost_of, is_over}
use Rattle.action_eval.specs.FormOf.{IsCost, IsFormOf}
use Rattle.action_eval.specs.Forms.{cost_in, number_here, form, place, with_costs}
use Rattle.action_eval.proofs.PlainLaws.{plain_value}
use Rattle.action_eval.proofs.WithCostLaws.{same_symbol, bytes_eq-turned, Settable, desc_in-passes, same_but_costs, cost_at_place, settable}
use Rattle.action_eval.proofs.CostTypes.{two, three, read_types}
use Rattle.action_eval.proofs.CostParts.{Reads, Plain}

taken : {A : Type 0} (b : Bool) (x y : A) → b ≡ true → (if b then x else y) ≡ x
taken true x y is = refl
taken false x y is = absurd (false≢true is)

not_taken : {A : Type 0} (b : Bool) (x y : A) → b ≡ false → (if b then x else y) ≡ y
not_taken true x y is = absurd (false≢true (sym is))
not_taken false x y is = refl

not_not : (b : Bool) → not (not b) ≡ true → b ≡ true
not_not true is = refl
not_not false is = is

-- a name stands at its place
place-lt : (names : List Symbol) (d : Symbol) → contains names d ≡ true → place names d < length names
place-lt [] d there = absurd (false≢true there)
place-lt (s ∷ names) d there =
    elim (bytes_eq s d) as (λ b. bytes_eq s d ≡ b → (if b then 0 else suc (place names d)) < suc (length names)) [
      | true ↦ λ is. omega arith
      | false ↦ λ is.
          let behind : contains names d ≡ true = subst (λ b. (b || contains names d) ≡ true) (bytes_eq-turned s d false is) there in
          omega (arith, place-lt names d behind)
    ] refl

module _ (names : List Symbol) (count : ℕ) (env : Env) (catalog : Catalog) where
  -- what reads no cost comes to the same
  pub plain_here : (costs : List ℕ) (e : Expr) → Plain env e → value_here env catalog e ≡ value_here (with_costs names costs env) catalog e
  plain_here costs e plain =
      sym (plain_value env.layout (functions env.layout env.rules.helpers catalog) (cost_in env) _ env.descs (same_but_costs env.layout (cost_in env) names costs env.descs) e [] plain)

  plain_form : (e : Expr) → Plain env e → form names env catalog e ≡ cost.number (number_here env catalog e)
  plain_form (number n) plain = refl
  plain_form (truth b) plain = refl
  plain_form (symbol s) plain = refl
  plain_form (set_of es) plain = refl
  plain_form (list_of es) plain = refl
  plain_form (var x) plain = refl
  plain_form (read d p) plain = not_taken _ _ _ plain
  plain_form (call f es) plain = not_taken _ _ _ plain
  plain_form (binary a o b) plain = not_taken _ _ _ plain
  plain_form (fold k x over each) plain = refl

  pub number_is : (e : Expr) (n : ℕ) → Plain env e → n ≡ number_here env catalog e → n ≤ cap → IsFormOf names count env catalog e (cost.number n)
  number_is e n plain is small = record {
    is = ap cost.number is ∙ sym (plain_form e plain);
    over = refl;
    means = λ costs long. let same : min n cap ≡ n = omega arith in same ∙ is ∙ ap number_in (plain_here costs e plain);
  }

  pub input_is : (d p : Symbol) → count ≡ length names → IsCost names env (read d p) → Reads env (read d p) → IsFormOf names count env catalog (read d p) (cost.input (place names d))
  input_is d p full is reads =
      let types = read_types env.rules.properties (signatures_of env.rules.helpers) (context_of env) d p is.typed in
      let name : p ≡ cost_in env = same_symbol p (cost_in env) reads in
      let one : contains names d ≡ true = not_not (contains names d) (subst (λ b. not (b && not (contains names d)) ≡ true) reads is.of_inputs) in
      let fit : fits env.layout (desc_in env.descs d) ≡ true = desc_in-passes (fits env.layout) env.descs d is.sound.descs types.0 in
      let declared : property_kind env.rules.properties (cost_in env) ≡ Some types.1.0 = subst (λ s. property_kind env.rules.properties s ≡ Some types.1.0) name types.1.1 in
      let set : Settable env.layout (cost_in env) (desc_in env.descs d) = subst (λ l. Settable l (cost_in env) (desc_in env.descs d)) (sym is.sound.layout)
      (settable env.rules.properties (cost_in env) (desc_in env.descs d) types.1.0 declared (subst (λ l. fits l (desc_in env.descs d) ≡ true) is.sound.layout fit)) in
      record {
        is = sym (taken _ _ _ reads);
        over = lt-ltb _ _ (omega (arith, full, place-lt names d one));
        means = λ costs long.
            sym (ap number_in (ap (λ s. value_of env.layout s (desc_in (with_costs names costs env).descs d)) name ∙ cost_at_place env.layout (cost_in env) names costs env.descs d is.different (long ∙ full) one types.0 set));
      }

  pub sum_is : (a b : Expr) (f g : CostForm) → Reads env (binary a op.Add b) → IsFormOf names count env catalog a f → IsFormOf names count env catalog b g → IsFormOf names count env catalog (binary a op.Add b) (cost.sum f g)
  sum_is a b f g reads left right = record {
    is = ap₂ cost.sum left.is right.is ∙ sym (taken _ _ _ reads);
    over = both_true left.over right.over;
    means = λ costs long. ap₂ capped_add (left.means costs long) (right.means costs long);
  }

  pub multiple_is : (a b : Expr) (n : ℕ) (g : CostForm) → Reads env (binary a op.Mul b) → Plain env a → n ≡ number_here env catalog a → IsFormOf names count env catalog b g → IsFormOf names count env catalog (binary a op.Mul b) (cost.multiple n g)
  multiple_is a b n g reads plain is right = record {
    is = ap₂ cost.multiple is right.is ∙ sym (taken _ _ _ reads);
    over = right.over;
    means = λ costs long. ap₂ capped_mul (is ∙ ap number_in (plain_here costs a plain)) (right.means costs long);
  }

  pub greater_is : (a b : Expr) (f g : CostForm) → Reads env (call (codes "max") (two a b)) → IsFormOf names count env catalog a f → IsFormOf names count env catalog b g → IsFormOf names count env catalog (call (codes "max") (two a b)) (cost.greater f g)
  greater_is a b f g reads left right = record {
    is = ap₂ cost.greater left.is right.is ∙ sym (taken _ _ _ reads);
    over = both_true left.over right.over;
    means = λ costs long. ap₂ max (left.means costs long) (right.means costs long);
  }

  pub lesser_is : (a b : Expr) (f g : CostForm) → Reads env (call (codes "min") (two a b)) → IsFormOf names count env catalog a f → IsFormOf names count env catalog b g → IsFormOf names count env catalog (call (codes "min") (two a b)) (cost.lesser f g)
  lesser_is a b f g reads left right = record {
    is = ap₂ cost.lesser left.is right.is ∙ sym (taken _ _ _ reads);
    over = both_true left.over right.over;
    means = λ costs long. ap₂ min (left.means costs long) (right.means costs long);
  }

  -- a choice is the part that is chosen
  pub first_is : (t a b : Expr) (f : CostForm) → Reads env (call (codes "if") (three t a b)) → Plain env t → true ≡ truth_in (value_here env catalog t) → IsFormOf names count env catalog a f
      → IsFormOf names count env catalog (call (codes "if") (three t a b)) f
  first_is t a b f reads plain holds part = record {
    is = part.is ∙ sym (taken _ _ _ (sym holds)) ∙ sym (taken _ _ _ reads);
    over = part.over;
    means = λ costs long. part.means costs long ∙ sym (ap number_in (taken _ _ _ (sym (holds ∙ ap truth_in (plain_here costs t plain)))));
  }

  pub second_is : (t a b : Expr) (f : CostForm) → Reads env (call (codes "if") (three t a b)) → Plain env t → false ≡ truth_in (value_here env catalog t) → IsFormOf names count env catalog b f
      → IsFormOf names count env catalog (call (codes "if") (three t a b)) f
  second_is t a b f reads plain fails part = record {
    is = part.is ∙ sym (not_taken _ _ _ (sym fails)) ∙ sym (taken _ _ _ reads);
    over = part.over;
    means = λ costs long. part.means costs long ∙ sym (ap number_in (not_taken _ _ _ (sym (fails ∙ ap truth_in (plain_here costs t plain)))));
  }

-- a number is at most the cap
pub number_in-le : (v : Value) → has_kind kind.Num v ≡ true → number_in v ≤ cap
number_in-le (value.Num n) is = leb-true n cap is
number_in-le v is = absurd (false≢true is)
