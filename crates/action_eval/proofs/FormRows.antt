-- The forms of small cost expressions over two inputs, A and B, in an environment where D.rows is 20 and D.sorted is true.
use Rattle.std.proofs.Common.{◌≡◌, true, false, List, [], ◌∷◌, None, refl}
use Rattle.std.specs.Prelude.{codes}
use Rattle.pr_value.specs.Symbols.{Symbol}
use Rattle.pr_value.specs.declared.kind.Kind.TheVariants as kind
use Rattle.pr_value.specs.declared.value.Value.TheVariants as value
use Rattle.catalog.specs.Contents.{Catalog}
use Rattle.rule_ast.specs.declared.expr.BinOp.TheVariants as op
use Rattle.rule_ast.specs.Syntax.{Expr, Exprs, Rules, binary, call, number, read}
use Rattle.rule_ast.specs.Syntax as syntax
use Rattle.action_eval.specs.Cost as cost
use Rattle.action_eval.specs.Cost.{CostForm, cost_of}
use Rattle.action_eval.specs.Environments.{Env}
use Rattle.pr_value.specs.Repeats.{are_distinct}
use Rattle.action_eval.specs.Forms.{form, number_here, with_costs}

abbrev rules : Rules
rules = record {
  properties = record { name = codes "cost"; kind = kind.Cost } ∷ record { name = codes "rows"; kind = kind.Num } ∷ record { name = codes "sorted"; kind = kind.Truth } ∷ [];
  operators = [];
  algorithms = [];
  helpers = [];
  trules = [];
  irules = [];
}

abbrev env : Env
env = record {
  rules = rules;
  layout = rules.properties;
  descs =
      (codes "A", value.Num 0 ∷ value.Num 3 ∷ value.Truth false ∷ []) ∷ (codes "B", value.Num 0 ∷ value.Num 4 ∷ value.Truth false ∷ []) ∷
      (codes "D", value.Num 0 ∷ value.Num 20 ∷ value.Truth true ∷ []) ∷ [];
}

abbrev catalog : Catalog
catalog = record { files = None; tables = [] }

abbrev names : List Symbol
names = codes "A" ∷ codes "B" ∷ []

abbrev form_here : Expr → CostForm
form_here e = form names env catalog e

abbrev a : Expr
a = read (codes "A") (codes "cost")

abbrev b : Expr
b = read (codes "B") (codes "cost")

abbrev rows : Expr
rows = read (codes "D") (codes "rows")

abbrev two : Expr → Expr → Exprs
two x y = syntax.cons x (syntax.cons y syntax.nil)

distinct-names : are_distinct names ≡ true
distinct-names = refl

distinct-twice : are_distinct (codes "A" ∷ codes "B" ∷ codes "A" ∷ []) ≡ false
distinct-twice = refl

form-input : form_here b ≡ cost.input 1
form-input = refl

-- a sum that reads no cost is one number
form-number : form_here (binary (number 2) op.Add rows) ≡ cost.number 22
form-number = refl

form-sum : form_here (binary a op.Add (binary b op.Add rows)) ≡ cost.sum (cost.input 0) (cost.sum (cost.input 1) (cost.number 20))
form-sum = refl

form-multiple : form_here (binary rows op.Mul b) ≡ cost.multiple 20 (cost.input 1)
form-multiple = refl

form-greater : form_here (call (codes "max") (two a b)) ≡ cost.greater (cost.input 0) (cost.input 1)
form-greater = refl

form-lesser : form_here (call (codes "min") (two a rows)) ≡ cost.lesser (cost.input 0) (cost.number 20)
form-lesser = refl

form-choice : form_here (call (codes "if") (syntax.cons (read (codes "D") (codes "sorted")) (two a b))) ≡ cost.input 0
form-choice = refl

form-other_choice : form_here (call (codes "if") (syntax.cons (read (codes "A") (codes "sorted")) (two a b))) ≡ cost.input 1
form-other_choice = refl

-- it comes to what the expression comes to where A costs 6 and B costs 7
means-sum : number_here (with_costs names (6 ∷ 7 ∷ []) env) catalog (binary a op.Add (binary rows op.Mul b)) ≡ 146
means-sum = refl

cost-sum : cost_of (form_here (binary a op.Add (binary rows op.Mul b))) (6 ∷ 7 ∷ []) ≡ 146
cost-sum = refl
