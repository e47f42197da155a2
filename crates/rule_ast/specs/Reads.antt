-- What an expression reads of descriptors.
use Rattle.std.specs.Prelude.{Bool, false, ◌&&◌, ◌||◌}
use Rattle.std.specs.Str.{bytes_eq}
use Rattle.pr_value.specs.Symbols.{Symbol}
use Rattle.rule_ast.specs.Syntax.{Expr, number, truth, symbol, set_of, list_of, var, read, call, binary, fold, Exprs}
use Rattle.rule_ast.specs.Syntax as syntax

-- a question on a read, by the names of the descriptor and the property
abbrev pub Question : Type 0
Question = Symbol → Symbol → Bool

-- the question holds of some read of the expression
abbrev mutual
  pub any_read : Question → Expr → Bool
  any_read asked (number n) = false
  any_read asked (truth b) = false
  any_read asked (symbol s) = false
  any_read asked (set_of es) = any_reads asked es
  any_read asked (list_of es) = any_reads asked es
  any_read asked (var x) = false
  any_read asked (read d p) = asked d p
  any_read asked (call f es) = any_reads asked es
  any_read asked (binary a o b) = any_read asked a || any_read asked b
  any_read asked (fold k x over each) = any_read asked over || any_read asked each

  pub any_reads : Question → Exprs → Bool
  any_reads asked syntax.nil = false
  any_reads asked (syntax.cons e es) = any_read asked e || any_reads asked es

-- the expression reads the property of the descriptor
abbrev pub reads : Symbol → Symbol → Expr → Bool
reads d p = any_read (λ e q. bytes_eq e d && bytes_eq q p)
