-- Types of expressions, statements and helpers, and forms of costs, computed from the definitions.
use Rattle.std.proofs.Common.{◌≡◌, Bool, true, false, List, [], ◌∷◌, Option, Some, None, refl}
use Rattle.std.specs.Prelude.{codes}
use Rattle.pr_value.specs.declared.kind.Kind.{Kind}
use Rattle.pr_value.specs.declared.kind.Kind.TheVariants as kind
use Rattle.rule_ast.specs.declared.expr.BinOp.TheVariants as op
use Rattle.rule_ast.specs.declared.expr.FoldKind.TheVariants as folding
use Rattle.pr_value.specs.declared.property.Property.{Property}
use Rattle.rule_ast.specs.Syntax.{Expr, number, truth, symbol, set_of, list_of, var, call, binary, fold, Exprs, nil, cons, Stmt, Helper}
use Rattle.rule_ast.specs.Syntax as syntax
use Rattle.rule_ast.specs.Typing.{Context, type_of, is_typed_stmt, are_typed, signatures_of}
use Rattle.rule_ast.specs.CostForms.{cost_name, is_cost_form, reads_cost_of}

abbrev properties : List Property
properties = record { name = codes "cost"; kind = kind.Cost } ∷ record { name = codes "card"; kind = kind.Num } ∷ record { name = codes "files"; kind = kind.Set } ∷ []

-- rows(s : set) : num = product(x in s : num_at('card, x))
abbrev helpers : List Helper
helpers =
    record {
      name = codes "rows";
      params = record { name = codes "s"; kind = kind.Set } ∷ [];
      result = kind.Num;
      body = fold folding.Product (codes "x") (var (codes "s")) (call (codes "num_at") (cons (symbol (codes "card")) (cons (var (codes "x")) nil)));
    } ∷ []

abbrev context : Context
context = record { descs = codes "D" ∷ codes "E1" ∷ []; vars = [] }

abbrev type : Expr → Option Kind
type = type_of properties (signatures_of helpers) context

abbrev card : Expr
card = syntax.read (codes "D") (codes "card")

abbrev cost : Expr
cost = syntax.read (codes "E1") (codes "cost")

a-cost-is-a-number : type cost ≡ Some kind.Num
a-cost-is-a-number = refl

an-undeclared-property : type (syntax.read (codes "D") (codes "size")) ≡ None
an-undeclared-property = refl

an-unknown-descriptor : type (syntax.read (codes "F") (codes "card")) ≡ None
an-unknown-descriptor = refl

a-descriptor-is-no-variable : type (var (codes "D")) ≡ None
a-descriptor-is-no-variable = refl

helper-of-a-set : type (call (codes "rows") (cons (syntax.read (codes "D") (codes "files")) nil)) ≡ Some kind.Num
helper-of-a-set = refl

helper-of-a-number : type (call (codes "rows") (cons card nil)) ≡ None
helper-of-a-number = refl

choice-of-sets : type (call (codes "if") (cons (truth true) (cons (set_of nil) (cons (syntax.read (codes "D") (codes "files")) nil)))) ≡ Some kind.Set
choice-of-sets = refl

choice-of-two-types : type (call (codes "if") (cons (truth true) (cons (set_of nil) (cons (list_of nil) nil)))) ≡ None
choice-of-two-types = refl

look-up-by-four-keys :
    type (call (codes "set_at") (cons (symbol (codes "t")) (cons (symbol (codes "a")) (cons (symbol (codes "a")) (cons (symbol (codes "a")) (cons (symbol (codes "a")) nil)))))) ≡ Some kind.Set
look-up-by-four-keys = refl

look-up-by-five-keys :
    type (call (codes "set_at") (cons (symbol (codes "t")) (cons (symbol (codes "a")) (cons (symbol (codes "a")) (cons (symbol (codes "a")) (cons (symbol (codes "a")) (cons (symbol (codes "a")) nil))))))) ≡ None
look-up-by-five-keys = refl

look-up-without-keys : type (call (codes "num_at") (cons (symbol (codes "t")) nil)) ≡ None
look-up-without-keys = refl

a-set-of-numbers : type (set_of (cons (number 1) nil)) ≡ None
a-set-of-numbers = refl

equal-lists : type (binary (list_of nil) op.Equal (list_of nil)) ≡ Some kind.Truth
equal-lists = refl

a-set-and-a-list : type (binary (set_of nil) op.Equal (list_of nil)) ≡ None
a-set-and-a-list = refl

keep-of-a-list : type (fold folding.Keep (codes "x") (list_of nil) (binary (var (codes "x")) op.Equal (symbol (codes "a")))) ≡ Some kind.List
keep-of-a-list = refl

sum-of-truths : type (fold folding.Sum (codes "x") (list_of nil) (truth true)) ≡ None
sum-of-truths = refl

fold-of-a-number : type (fold folding.Sum (codes "x") (number 1) (number 1)) ≡ None
fold-of-a-number = refl

set-to-its-type : is_typed_stmt properties (signatures_of helpers) context (syntax.set (codes "D") (codes "card") (number 1)) ≡ true
set-to-its-type = refl

set-to-another-type : is_typed_stmt properties (signatures_of helpers) context (syntax.set (codes "D") (codes "card") (set_of nil)) ≡ false
set-to-another-type = refl

a-copy : is_typed_stmt properties (signatures_of helpers) context (syntax.copy (codes "D") (codes "E1")) ≡ true
a-copy = refl

helpers-are-typed : are_typed properties [] helpers ≡ true
helpers-are-typed = refl

-- one() : num = one()
a-helper-that-calls-itself : are_typed properties [] (record { name = codes "one"; params = []; result = kind.Num; body = call (codes "one") nil } ∷ []) ≡ false
a-helper-that-calls-itself = refl

-- ---- forms of costs

the-cost : cost_name properties ≡ codes "cost"
the-cost = refl

abbrev is_form : Expr → Bool
is_form = is_cost_form (codes "cost")

a-number : is_form (binary card op.Mul (number 2)) ≡ true
a-number = refl

an-input : is_form cost ≡ true
an-input = refl

a-sum : is_form (binary (binary cost op.Add cost) op.Add card) ≡ true
a-sum = refl

a-multiple : is_form (binary card op.Mul cost) ≡ true
a-multiple = refl

a-multiple-turned : is_form (binary cost op.Mul (number 2)) ≡ false
a-multiple-turned = refl

a-difference : is_form (binary cost op.Sub (number 2)) ≡ false
a-difference = refl

the-greater : is_form (call (codes "max") (cons cost (cons (number 1) nil))) ≡ true
the-greater = refl

a-choice : is_form (call (codes "if") (cons (truth true) (cons cost (cons (number 1) nil)))) ≡ true
a-choice = refl

a-choice-by-a-cost : is_form (call (codes "if") (cons (binary cost op.Less (number 1)) (cons cost (cons (number 1) nil)))) ≡ false
a-choice-by-a-cost = refl

a-logarithm : is_form (call (codes "log2") (cons cost nil)) ≡ false
a-logarithm = refl

of-the-inputs : reads_cost_of (codes "cost") (codes "E1" ∷ []) (binary cost op.Add card) ≡ true
of-the-inputs = refl

of-another : reads_cost_of (codes "cost") (codes "E2" ∷ []) cost ≡ false
of-another = refl
