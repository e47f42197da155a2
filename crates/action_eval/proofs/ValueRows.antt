-- Values of expressions and runs of statements, computed from the definitions.
use Rattle.std.proofs.Common.{◌≡◌, List, [], ◌∷◌, None, refl}
use Rattle.std.specs.Prelude.{codes}
use Rattle.pr_value.specs.Capped.{cap, log2_up_to}
use Rattle.pr_value.specs.Symbols.{dash}
use Rattle.pr_value.specs.declared.kind.Kind.TheVariants as kind
use Rattle.pr_value.specs.declared.value.Value.TheVariants as value
use Rattle.catalog.specs.Contents.{Catalog}
use Rattle.descriptor_types.specs.Descriptors.{Layout}
use Rattle.rule_ast.specs.declared.expr.BinOp.TheVariants as op
use Rattle.rule_ast.specs.declared.expr.FoldKind.TheVariants as folding
use Rattle.rule_ast.specs.Syntax.{Expr, number, symbol, list_of, var, call, binary, fold, Exprs, nil, cons, Helper}
use Rattle.rule_ast.specs.Syntax as syntax
use Rattle.action_eval.specs.Meaning.{Scope, val, run}

abbrev catalog : Catalog
catalog = record { files = None; tables = [] }

abbrev layout : Layout
layout = record { name = codes "cost"; kind = kind.Cost } ∷ record { name = codes "card"; kind = kind.Num } ∷ record { name = codes "order"; kind = kind.Symbol } ∷ []

-- `twice` doubles; `four` calls it twice; `self` calls itself, which means nothing
abbrev helpers : List Helper
helpers =
    record { name = codes "twice"; params = record { name = codes "x"; kind = kind.Num } ∷ []; result = kind.Num; body = binary (var (codes "x")) op.Mul (number 2) } ∷
    record { name = codes "four"; params = record { name = codes "x"; kind = kind.Num } ∷ []; result = kind.Num; body = call (codes "twice") (cons (call (codes "twice") (cons (var (codes "x")) nil)) nil) } ∷
    record { name = codes "self"; params = []; result = kind.Num; body = binary (call (codes "self") nil) op.Add (number 1) } ∷ []

abbrev scope : Scope
scope = record {
  descs = (codes "D", value.Num 0 ∷ value.Num 6 ∷ value.Sym (codes "k") ∷ []) ∷ (codes "E", value.Num 0 ∷ value.Num 1 ∷ value.Sym dash ∷ []) ∷ [];
  values = [];
}

abbrev one : Expr → value.the_data
one = val layout helpers catalog scope

-- ((3 - 5) + (7 / 0))
capped-sum : one (binary (binary (number 3) op.Sub (number 5)) op.Add (binary (number 7) op.Div (number 0))) ≡ value.Num cap
capped-sum = refl

log2-of-0 : one (call (codes "log2") (cons (number 0) nil)) ≡ value.Num 0
unfolding log2_up_to
log2-of-0 = refl

reads-a-property : one (syntax.read (codes "D") (codes "card")) ≡ value.Num 6
reads-a-property = refl

a-set-ascends : one (syntax.set_of (cons (symbol (codes "b")) (cons (symbol (codes "a")) (cons (symbol (codes "b")) nil)))) ≡ value.Set (codes "a" ∷ codes "b" ∷ [])
a-set-ascends = refl

helpers-call-earlier-ones : one (call (codes "four") (cons (number 3) nil)) ≡ value.Num 12
helpers-call-earlier-ones = refl

a-helper-does-not-see-itself : one (call (codes "self") nil) ≡ value.Num 1
a-helper-does-not-see-itself = refl

-- sum(x in ['a, 'b] : length(keep(y in ['a, 'b] : (y != x))))
folds-in-folds :
    one (fold folding.Sum (codes "x") (list_of (cons (symbol (codes "a")) (cons (symbol (codes "b")) nil)))
    (call (codes "length") (cons (fold folding.Keep (codes "y") (list_of (cons (symbol (codes "a")) (cons (symbol (codes "b")) nil))) (binary (var (codes "y")) op.NotEqual (var (codes "x")))) nil)))
    ≡ value.Num 2
folds-in-folds = refl

-- E.card = (D.card + 1); D = E;
statements-in-order :
    run layout helpers catalog (syntax.set (codes "E") (codes "card") (binary (syntax.read (codes "D") (codes "card")) op.Add (number 1)) ∷ syntax.copy (codes "D") (codes "E") ∷ []) scope
    ≡ record {
      descs = (codes "D", value.Num 0 ∷ value.Num 7 ∷ value.Sym dash ∷ []) ∷ (codes "E", value.Num 0 ∷ value.Num 7 ∷ value.Sym dash ∷ []) ∷ [];
      values = [];
    }
statements-in-order = refl
