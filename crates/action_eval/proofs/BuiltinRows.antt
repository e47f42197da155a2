-- Each built-in function, operator and fold on values at its edges, computed from the definitions.
use Rattle.std.proofs.Common.{◌≡◌, true, false, List, [], ◌∷◌, None, refl}
use Rattle.std.specs.Prelude.{codes}
use Rattle.pr_value.specs.Capped.{cap, log2_up_to}
use Rattle.pr_value.specs.Symbols.{Symbol, dash}
use Rattle.pr_value.specs.declared.value.Value.{Value}
use Rattle.pr_value.specs.declared.value.Value.TheVariants.{Num, Truth, Sym, Set, List as ListOf}
use Rattle.catalog.specs.Contents.{Catalog}
use Rattle.rule_ast.specs.declared.expr.BinOp.TheVariants as op
use Rattle.rule_ast.specs.declared.expr.FoldKind.TheVariants as folding
use Rattle.action_eval.specs.Builtins.{binary_value, fold_value}
use Rattle.action_eval.specs.Meaning.{no_calls, with_builtins}

abbrev a : Symbol
a = codes "a"

abbrev b : Symbol
b = codes "b"

-- a table with a value of each type, and one with two keys
abbrev catalog : Catalog
catalog = record {
  files = None;
  tables = record {
    name = codes "t";
    rows =
        record { keys = codes "n" ∷ []; value = Num 7 } ∷ record { keys = codes "b" ∷ []; value = Truth true } ∷ record { keys = codes "s" ∷ []; value = Sym a } ∷
        record { keys = codes "m" ∷ []; value = Set (a ∷ []) } ∷ record { keys = codes "l" ∷ []; value = ListOf (b ∷ a ∷ []) } ∷
        record { keys = codes "n" ∷ codes "b" ∷ []; value = Num 9 } ∷ [];
  } ∷ [];
}

abbrev call : Symbol → List Value → Value
call = with_builtins catalog no_calls

if-true : call (codes "if") (Truth true ∷ Num 1 ∷ Num 2 ∷ []) ≡ Num 1
if-true = refl

if-false : call (codes "if") (Truth false ∷ Sym a ∷ Sym b ∷ []) ≡ Sym b
if-false = refl

not-true : call (codes "not") (Truth true ∷ []) ≡ Truth false
not-true = refl

min-two : call (codes "min") (Num 3 ∷ Num 5 ∷ []) ≡ Num 3
min-two = refl

max-two : call (codes "max") (Num 3 ∷ Num 5 ∷ []) ≡ Num 5
max-two = refl

log2-0 : call (codes "log2") (Num 0 ∷ []) ≡ Num 0
unfolding log2_up_to
log2-0 = refl

log2-8 : call (codes "log2") (Num 8 ∷ []) ≡ Num 3
unfolding log2_up_to
log2-8 = refl

log2-7 : call (codes "log2") (Num 7 ∷ []) ≡ Num 2
unfolding log2_up_to
log2-7 = refl

union-two : call (codes "union") (Set (b ∷ []) ∷ Set (a ∷ []) ∷ []) ≡ Set (a ∷ b ∷ [])
union-two = refl

minus-two : call (codes "minus") (Set (a ∷ b ∷ []) ∷ Set (a ∷ []) ∷ []) ≡ Set (b ∷ [])
minus-two = refl

meet-two : call (codes "meet") (Set (a ∷ b ∷ []) ∷ Set (b ∷ []) ∷ []) ≡ Set (b ∷ [])
meet-two = refl

has-one : call (codes "has") (Set (a ∷ []) ∷ Sym a ∷ []) ≡ Truth true
has-one = refl

has-not : call (codes "has") (Set (a ∷ []) ∷ Sym b ∷ []) ≡ Truth false
has-not = refl

subset-of : call (codes "subset") (Set (a ∷ []) ∷ Set (a ∷ b ∷ []) ∷ []) ≡ Truth true
subset-of = refl

subset-not : call (codes "subset") (Set (a ∷ b ∷ []) ∷ Set (a ∷ []) ∷ []) ≡ Truth false
subset-not = refl

size-two : call (codes "size") (Set (a ∷ b ∷ []) ∷ []) ≡ Num 2
size-two = refl

length-three : call (codes "length") (ListOf (a ∷ b ∷ a ∷ []) ∷ []) ≡ Num 3
length-three = refl

at-one : call (codes "at") (ListOf (a ∷ b ∷ []) ∷ Num 1 ∷ []) ≡ Sym b
at-one = refl

at-end : call (codes "at") (ListOf (a ∷ b ∷ []) ∷ Num 2 ∷ []) ≡ Sym dash
at-end = refl

prefix-of : call (codes "prefix") (ListOf (a ∷ []) ∷ ListOf (a ∷ b ∷ []) ∷ []) ≡ Truth true
prefix-of = refl

prefix-turned : call (codes "prefix") (ListOf (a ∷ b ∷ []) ∷ ListOf (a ∷ []) ∷ []) ≡ Truth false
prefix-turned = refl

concat-two : call (codes "concat") (ListOf (b ∷ []) ∷ ListOf (a ∷ b ∷ []) ∷ []) ≡ ListOf (b ∷ a ∷ b ∷ [])
concat-two = refl

elems-of : call (codes "elems") (ListOf (b ∷ a ∷ b ∷ []) ∷ []) ≡ Set (a ∷ b ∷ [])
elems-of = refl

num-there : call (codes "num_at") (Sym (codes "t") ∷ Sym (codes "n") ∷ []) ≡ Num 7
num-there = refl

num-two-keys : call (codes "num_at") (Sym (codes "t") ∷ Sym (codes "n") ∷ Sym (codes "b") ∷ []) ≡ Num 9
num-two-keys = refl

num-of-another-type : call (codes "num_at") (Sym (codes "t") ∷ Sym (codes "s") ∷ []) ≡ Num 0
num-of-another-type = refl

num-no-row : call (codes "num_at") (Sym (codes "t") ∷ Sym (codes "x") ∷ []) ≡ Num 0
num-no-row = refl

num-no-table : call (codes "num_at") (Sym (codes "u") ∷ Sym (codes "n") ∷ []) ≡ Num 0
num-no-table = refl

truth-there : call (codes "truth_at") (Sym (codes "t") ∷ Sym (codes "b") ∷ []) ≡ Truth true
truth-there = refl

truth-of-another-type : call (codes "truth_at") (Sym (codes "t") ∷ Sym (codes "n") ∷ []) ≡ Truth false
truth-of-another-type = refl

symbol-there : call (codes "sym_at") (Sym (codes "t") ∷ Sym (codes "s") ∷ []) ≡ Sym a
symbol-there = refl

symbol-of-another-type : call (codes "sym_at") (Sym (codes "t") ∷ Sym (codes "m") ∷ []) ≡ Sym dash
symbol-of-another-type = refl

set-there : call (codes "set_at") (Sym (codes "t") ∷ Sym (codes "m") ∷ []) ≡ Set (a ∷ [])
set-there = refl

set-of-another-type : call (codes "set_at") (Sym (codes "t") ∷ Sym (codes "l") ∷ []) ≡ Set []
set-of-another-type = refl

list-there : call (codes "list_at") (Sym (codes "t") ∷ Sym (codes "l") ∷ []) ≡ ListOf (b ∷ a ∷ [])
list-there = refl

list-of-another-type : call (codes "list_at") (Sym (codes "t") ∷ Sym (codes "m") ∷ []) ≡ ListOf []
list-of-another-type = refl

-- ---- operators

sum-past-the-cap : binary_value op.Add (Num cap) (Num 1) ≡ Num cap
sum-past-the-cap = refl

difference-below-0 : binary_value op.Sub (Num 3) (Num 5) ≡ Num 0
difference-below-0 = refl

product-past-the-cap : binary_value op.Mul (Num cap) (Num 2) ≡ Num cap
product-past-the-cap = refl

quotient-by-0 : binary_value op.Div (Num 7) (Num 0) ≡ Num cap
quotient-by-0 = refl

quotient : binary_value op.Div (Num 7) (Num 2) ≡ Num 3
quotient = refl

equal-sets : binary_value op.Equal (Set (a ∷ b ∷ [])) (Set (a ∷ b ∷ [])) ≡ Truth true
equal-sets = refl

other-lists : binary_value op.NotEqual (ListOf (a ∷ b ∷ [])) (ListOf (b ∷ a ∷ [])) ≡ Truth true
other-lists = refl

not-less : binary_value op.Less (Num 3) (Num 3) ≡ Truth false
not-less = refl

less-or-equal : binary_value op.LessEqual (Num 3) (Num 3) ≡ Truth true
less-or-equal = refl

greater : binary_value op.Greater (Num 3) (Num 2) ≡ Truth true
greater = refl

not-greater-or-equal : binary_value op.GreaterEqual (Num 2) (Num 3) ≡ Truth false
not-greater-or-equal = refl

both-true : binary_value op.And (Truth true) (Truth false) ≡ Truth false
both-true = refl

one-true : binary_value op.Or (Truth true) (Truth false) ≡ Truth true
one-true = refl

-- ---- folds

-- 2 at `a`, 3 at every other symbol
abbrev weight : Symbol → Value
weight s = call (codes "if") (call (codes "has") (Set (a ∷ []) ∷ Sym s ∷ []) ∷ Num 2 ∷ Num 3 ∷ [])

abbrev is_b : Symbol → Value
is_b s = binary_value op.Equal (Sym s) (Sym b)

sum-of-none : fold_value folding.Sum (Set []) weight ≡ Num 0
sum-of-none = refl

sum-of-two : fold_value folding.Sum (Set (a ∷ b ∷ [])) weight ≡ Num 5
sum-of-two = refl

product-of-none : fold_value folding.Product (ListOf []) weight ≡ Num 1
product-of-none = refl

product-of-three : fold_value folding.Product (ListOf (b ∷ a ∷ b ∷ [])) weight ≡ Num 18
product-of-three = refl

any-of-none : fold_value folding.Any (Set []) is_b ≡ Truth false
any-of-none = refl

any-of-two : fold_value folding.Any (Set (a ∷ b ∷ [])) is_b ≡ Truth true
any-of-two = refl

all-of-none : fold_value folding.All (Set []) is_b ≡ Truth true
all-of-none = refl

all-of-two : fold_value folding.All (Set (a ∷ b ∷ [])) is_b ≡ Truth false
all-of-two = refl

keep-of-a-set : fold_value folding.Keep (Set (a ∷ b ∷ [])) is_b ≡ Set (b ∷ [])
keep-of-a-set = refl

keep-of-a-list : fold_value folding.Keep (ListOf (b ∷ a ∷ b ∷ [])) is_b ≡ ListOf (b ∷ b ∷ [])
keep-of-a-list = refl
