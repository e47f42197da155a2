-- What the reader of expressions does, one level after another.
use Rattle.std.specs.Prelude.{ℕ, zero, suc, Bool, true, false, ◌||◌, nat_le, if◌then◌else◌, ◌∷◌, Option, Some, None, codes}
use Rattle.pr_value.specs.Capped.{cap}
use Rattle.pr_value.specs.Symbols.{Symbol, is_symbol}
use Rattle.pr_value.specs.declared.token.Token.TheVariants as token
use Rattle.pr_value.specs.declared.token.Mark.TheVariants as mark
use Rattle.rule_ast.specs.declared.expr.BinOp.{BinOp}
use Rattle.rule_ast.specs.declared.expr.FoldKind.{FoldKind}
use Rattle.rule_ast.specs.Syntax.{Expr, number, truth, symbol, set_of, list_of, var, call, binary, fold}
use Rattle.rule_ast.specs.Syntax as syntax
use Rattle.rule_ast.specs.Seen.{exprs_of}
use Rattle.rule_syntax.specs.Tokens.{Text}
use Rattle.rule_ast.specs.Spelled.{is_free}
use Rattle.rule_syntax.specs.Reading.{◌>>=◌, Reader, mark_at, word_at, name_at, binop_at, truth_of, fold_of, closed_at}

-- what a name begins: a call, a descriptor's property or a variable
unfoldable pub named_at : Reader Expr → Symbol → Reader Expr
named_at read s (token.Mark mark.OpenParen ∷ ts) = closed_at read mark.CloseParen ts >>= (λ y. Some (call s (exprs_of y.0), y.1))
named_at read s (token.Mark mark.Dot ∷ ts) = name_at ts >>= (λ p. Some (syntax.read s p.0, p.1))
named_at read s ts = Some (var s, ts)

-- what stands behind a fold's name, up to what it runs over: a parameter
unfoldable pub parameter_at : Reader Symbol
parameter_at ts = mark_at mark.OpenParen ts >>= (λ r. name_at r >>= (λ x. word_at (codes "in") x.1 >>= (λ s. Some (x.0, s))))

-- what stands behind what a fold runs over: an expression for each
unfoldable pub each_at : Reader Expr → Reader Expr
each_at read ts = mark_at mark.Colon ts >>= (λ t. read t >>= (λ each. mark_at mark.CloseParen each.1 >>= (λ u. Some (each.0, u))))

-- what stands behind a fold's name
unfoldable pub folded_at : Reader Expr → FoldKind → Reader Expr
folded_at read k ts = parameter_at ts >>= (λ x. read x.1 >>= (λ over. each_at read over.1 >>= (λ each. Some (fold k x.0 over.0 each.0, each.1))))

-- what stands behind the first operand of a binary operation: its operator and the other operand
unfoldable pub operand_at : Reader Expr → Reader (BinOp × Expr)
operand_at read ts = binop_at ts >>= (λ o. read o.1 >>= (λ b. mark_at mark.CloseParen b.1 >>= (λ r. Some ((o.0, b.0), r))))

-- what stands behind the parenthesis of a binary operation
unfoldable pub binary_at : Reader Expr → Reader Expr
binary_at read ts = read ts >>= (λ a. operand_at read a.1 >>= (λ x. Some (binary a.0 x.0.0 x.0.1, x.1)))

-- a truth value, a fold, or what a name begins
abbrev pub word_expr : Reader Expr → Symbol → Text → Option Bool → Option FoldKind → Option (Expr × Text)
word_expr read s ts (Some b) k = Some (truth b, ts)
word_expr read s ts None (Some k) = folded_at read k ts
word_expr read s ts None None = if is_free s then named_at read s ts else None

-- an expression whose parts the reader reads
abbrev pub level_at : Reader Expr → Reader Expr
level_at read (token.Number n ∷ ts) = if nat_le n cap then Some (number n, ts) else None
level_at read (token.Quoted s ∷ ts) = if is_symbol s then Some (symbol s, ts) else None
level_at read (token.Name s ∷ ts) = word_expr read s ts (truth_of s) (fold_of s)
level_at read (token.Mark mark.OpenBrace ∷ ts) = closed_at read mark.CloseBrace ts >>= (λ y. Some (set_of (exprs_of y.0), y.1))
level_at read (token.Mark mark.OpenBracket ∷ ts) = closed_at read mark.CloseBracket ts >>= (λ y. Some (list_of (exprs_of y.0), y.1))
level_at read (token.Mark mark.OpenParen ∷ ts) = binary_at read ts
level_at read ts = None

-- an expression of so many levels at most
unfoldable pub expr_at : ℕ → Reader Expr
expr_at zero ts = None
expr_at (suc n) ts = level_at (expr_at n) ts

abbrev pub found : {A : Type 0} → Option A → Bool
found (Some x) = true
found None = false

-- whether an expression can begin with the next token
abbrev pub begins_expr : Text → Bool
begins_expr (token.Number n ∷ ts) = nat_le n cap
begins_expr (token.Quoted s ∷ ts) = is_symbol s
begins_expr (token.Name s ∷ ts) = found (truth_of s) || found (fold_of s) || is_free s
begins_expr (token.Mark mark.OpenBrace ∷ ts) = true
begins_expr (token.Mark mark.OpenBracket ∷ ts) = true
begins_expr (token.Mark mark.OpenParen ∷ ts) = true
begins_expr ts = false
