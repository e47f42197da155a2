-- The last statement of a block, and the cost that it gives.
use Rattle.std.specs.Prelude.{◌-◌, ◌&&◌, List, length, take, Option, Some, None, slice_get, option_and_then, if◌then◌else◌}
use Rattle.std.specs.Str.{bytes_eq}
use Rattle.pr_value.specs.Symbols.{Symbol}
use Rattle.rule_ast.specs.Syntax.{Expr, Stmt, set, copy, IRule}

abbrev pub last_of : {A : Type 0} → List A → Option A
last_of xs = slice_get xs (length xs - 1)

-- the value that a statement gives the property of the descriptor
abbrev pub value_given : Symbol → Symbol → Stmt → Option Expr
value_given d p (set e q value) = if bytes_eq e d && bytes_eq q p then Some value else None
value_given d p (copy e f) = None

-- the cost expression: what the last of these statements gives the cost of the descriptor
abbrev pub cost_given : Symbol → Symbol → List Stmt → Option Expr
cost_given cost d ss = option_and_then (value_given d cost) (last_of ss)

-- the expression that gives an I-rule's cost, by the name of the cost
abbrev pub cost_of : Symbol → IRule → Option Expr
cost_of cost i = cost_given cost i.right.desc i.body.post

-- all statements but the last
abbrev pub but_last : List Stmt → List Stmt
but_last ss = take (length ss - 1) ss
