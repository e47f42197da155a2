-- How each form of expression, side and query is seen.
use Rattle.std.proofs.Common.{◌≡◌, ℕ, Bool, List, [], ap, sym, ◌∙◌, map}
use Rattle.pr_value.specs.Symbols.{Symbol}
use Rattle.pr_value.specs.Trees.{tree}
use Rattle.rule_ast.specs.Syntax.{number, truth, symbol, set_of, list_of, var, call, binary, fold, Expr, LeftLabel, RightLabel, QueryLabel}
use Rattle.rule_ast.specs.Syntax as syntax
use Rattle.rule_ast.specs.Seen.{seen_expr, exprs_of, expr_level, seen_query, query_level}
use Rattle.rule_ast.specs.declared.expr.BinOp.{BinOp}
use Rattle.rule_ast.specs.declared.expr.FoldKind.{FoldKind}
use Rattle.rule_ast.specs.declared.expr.Expr as rust
use Rattle.rule_ast.specs.declared.expr.Expr.TheVariants as variant
use Rattle.rule_ast.specs.declared.expr.Expr.TheOpen.{Expr-F}
use Rattle.rule_ast.specs.declared.expr.Expr.TheFolds.{fold-roll-Expr}
use Rattle.rule_ast.specs.declared.query.QueryText as query
use Rattle.rule_ast.specs.declared.query.QueryText.TheVariants as queries
use Rattle.rule_ast.specs.declared.query.QueryText.TheOpen.{QueryText-F}
use Rattle.rule_ast.specs.declared.query.QueryText.TheFolds.{fold-roll-QueryText}
use Rattle.rule_ast.specs.declared.query.Setting.{Setting}

pub seen_number : (n : ℕ) → seen_expr (variant.Number n) ≡ number n
seen_number n = ap seen_expr (sym (variant.rolls-Number n)) ∙ fold-roll-Expr Expr expr_level (Expr-F.Number n)

pub seen_truth : (b : Bool) → seen_expr (variant.Truth b) ≡ truth b
seen_truth b = ap seen_expr (sym (variant.rolls-Truth b)) ∙ fold-roll-Expr Expr expr_level (Expr-F.Truth b)

pub seen_symbol : (s : Symbol) → seen_expr (variant.Sym s) ≡ symbol s
seen_symbol s = ap seen_expr (sym (variant.rolls-Sym s)) ∙ fold-roll-Expr Expr expr_level (Expr-F.Sym s)

pub seen_set : (es : List rust.Expr) → seen_expr (variant.SetOf es) ≡ set_of (exprs_of (map seen_expr es))
seen_set es = ap seen_expr (sym (variant.rolls-SetOf es)) ∙ fold-roll-Expr Expr expr_level (Expr-F.SetOf es)

pub seen_list : (es : List rust.Expr) → seen_expr (variant.ListOf es) ≡ list_of (exprs_of (map seen_expr es))
seen_list es = ap seen_expr (sym (variant.rolls-ListOf es)) ∙ fold-roll-Expr Expr expr_level (Expr-F.ListOf es)

pub seen_var : (x : Symbol) → seen_expr (variant.Var x) ≡ var x
seen_var x = ap seen_expr (sym (variant.rolls-Var x)) ∙ fold-roll-Expr Expr expr_level (Expr-F.Var x)

pub seen_read : (d p : Symbol) → seen_expr (variant.Read d p) ≡ syntax.read d p
seen_read d p = ap seen_expr (sym (variant.rolls-Read d p)) ∙ fold-roll-Expr Expr expr_level (Expr-F.Read d p)

pub seen_call : (f : Symbol) (es : List rust.Expr) → seen_expr (variant.Call f es) ≡ call f (exprs_of (map seen_expr es))
seen_call f es = ap seen_expr (sym (variant.rolls-Call f es)) ∙ fold-roll-Expr Expr expr_level (Expr-F.Call f es)

pub seen_binary : (a : rust.Expr) (o : BinOp) (b : rust.Expr) → seen_expr (variant.Binary a o b) ≡ binary (seen_expr a) o (seen_expr b)
seen_binary a o b = ap seen_expr (sym (variant.rolls-Binary a o b)) ∙ fold-roll-Expr Expr expr_level (Expr-F.Binary a o b)

pub seen_fold : (k : FoldKind) (x : Symbol) (over each : rust.Expr) → seen_expr (variant.Fold k x over each) ≡ fold k x (seen_expr over) (seen_expr each)
seen_fold k x over each = ap seen_expr (sym (variant.rolls-Fold k x over each)) ∙ fold-roll-Expr Expr expr_level (Expr-F.Fold k x over each)

pub seen_file : (f : Symbol) → seen_query (queries.File f) ≡ tree (QueryLabel.file f) []
seen_file f = ap seen_query (sym (queries.rolls-File f)) ∙ fold-roll-QueryText (syntax.Query) query_level (QueryText-F.File f)

pub seen_node : (o : Symbol) (ss : List Setting) (qs : List query.QueryText) → seen_query (queries.Node o ss qs) ≡ tree (QueryLabel.operator o ss) (map seen_query qs)
seen_node o ss qs = ap seen_query (sym (queries.rolls-Node o ss qs)) ∙ fold-roll-QueryText (syntax.Query) query_level (QueryText-F.Node o ss qs)
