-- The forms that a cost expression may have. Each never falls where an input's cost rises.
use Rattle.std.specs.Prelude.{Bool, true, false, not, ◌&&◌, ◌||◌, List, [], ◌∷◌, codes, if◌then◌else◌}
use Rattle.std.specs.Str.{bytes_eq}
use Rattle.pr_value.specs.Symbols.{Symbol}
use Rattle.pr_value.specs.SymbolSets.{contains}
use Rattle.pr_value.specs.declared.kind.Kind.{Kind}
use Rattle.pr_value.specs.declared.kind.Kind.TheVariants as kind
use Rattle.rule_ast.specs.declared.expr.BinOp.{BinOp}
use Rattle.rule_ast.specs.declared.expr.BinOp.TheVariants as op
use Rattle.pr_value.specs.declared.property.Property.{Property}
use Rattle.rule_ast.specs.Reads.{any_read, any_reads}
use Rattle.rule_ast.specs.Syntax.{Expr, number, truth, symbol, set_of, list_of, var, read, call, binary, fold, Exprs}
use Rattle.rule_ast.specs.Syntax as syntax

abbrev pub is_cost : Kind → Bool
is_cost kind.Cost = true
is_cost _ = false

-- the name of the property of kind cost, or `-` where there is none
abbrev pub cost_name : List Property → Symbol
cost_name [] = codes "-"
cost_name (p ∷ ps) = if is_cost p.kind then p.name else cost_name ps

-- the expression reads the cost of a descriptor
abbrev pub reads_cost : Symbol → Expr → Bool
reads_cost cost = any_read (λ d p. bytes_eq p cost)

abbrev pub any_reads_cost : Symbol → Exprs → Bool
any_reads_cost cost = any_reads (λ d p. bytes_eq p cost)

-- each cost that is read is that of one of these descriptors
abbrev pub reads_cost_of : Symbol → List Symbol → Expr → Bool
reads_cost_of cost ds e = not (any_read (λ d p. bytes_eq p cost && not (contains ds d)) e)

-- (K + K), or (N * K): whether the parts are forms, and the left one reads no cost
abbrev pub binary_is_form : BinOp → Bool → Bool → Bool → Bool
binary_is_form op.Add left_form left_plain right_form = left_form && right_form
binary_is_form op.Mul left_form left_plain right_form = left_plain && right_form
binary_is_form _ left_form left_plain right_form = false

-- max(K, K), min(K, K) or if(T, K, K): which arguments are forms, and whether the first reads no cost
abbrev pub call_is_form : Symbol → Bool → List Bool → Bool
call_is_form f first_plain (a ∷ b ∷ []) = (bytes_eq f (codes "max") || bytes_eq f (codes "min")) && a && b
call_is_form f first_plain (t ∷ a ∷ b ∷ []) = bytes_eq f (codes "if") && first_plain && a && b
call_is_form f first_plain _ = false

abbrev pub first_is_plain : Symbol → Exprs → Bool
first_is_plain cost syntax.nil = true
first_is_plain cost (syntax.cons e es) = not (reads_cost cost e)

-- a number that reads no cost, an input's cost, a sum, the greater or lesser of two, a multiple, or a choice
abbrev mutual
  pub is_cost_form : Symbol → Expr → Bool
  is_cost_form cost (read d p) = true
  is_cost_form cost (binary a o b) =
      not (reads_cost cost (binary a o b)) || binary_is_form o (is_cost_form cost a) (not (reads_cost cost a)) (is_cost_form cost b)
  is_cost_form cost (call f es) = not (any_reads_cost cost es) || call_is_form f (first_is_plain cost es) (are_cost_forms cost es)
  is_cost_form cost (number n) = true
  is_cost_form cost (truth b) = true
  is_cost_form cost (symbol s) = true
  is_cost_form cost (set_of es) = not (any_reads_cost cost es)
  is_cost_form cost (list_of es) = not (any_reads_cost cost es)
  is_cost_form cost (var x) = true
  is_cost_form cost (fold k x over each) = not (reads_cost cost (fold k x over each))

  pub are_cost_forms : Symbol → Exprs → List Bool
  are_cost_forms cost syntax.nil = []
  are_cost_forms cost (syntax.cons e es) = is_cost_form cost e ∷ are_cost_forms cost es
