-- How the definitions see the values of the code. Nothing here mentions the struct `Rules`, whose ghost field cites this file.
use Rattle.std.specs.Prelude.{List, [], ◌∷◌, map}
use Rattle.pr_value.specs.Trees.{Tree, tree}
use Rattle.rule_ast.specs.Syntax.{Expr, number, truth, symbol, set_of, list_of, var, read, call, binary, fold, Exprs, nil, cons, Stmt, set, copy, LeftLabel, RightLabel, QueryLabel, Operator, Helper, Body, TRule, IRule, Rules}
use Rattle.rule_ast.specs.declared.expr.Expr as expr
use Rattle.rule_ast.specs.declared.expr.Expr.TheOpen.{Expr-F}
use Rattle.rule_ast.specs.declared.expr.Expr.TheFolds.{fold-Expr}
use Rattle.rule_ast.specs.declared.expr.Stmt as stmt
use Rattle.rule_ast.specs.declared.expr.Stmt.TheVariants as stmts
use Rattle.rule_ast.specs.declared.sides.Left as left
use Rattle.rule_ast.specs.declared.sides.LeftIn as left_in
use Rattle.rule_ast.specs.declared.sides.LeftIn.TheOpen.{Left-F, LeftIn-F}
use Rattle.rule_ast.specs.declared.sides.LeftIn.TheFolds.{fold-Left, fold-LeftIn}
use Rattle.rule_ast.specs.declared.sides.Right as right
use Rattle.rule_ast.specs.declared.sides.RightIn as right_in
use Rattle.rule_ast.specs.declared.sides.RightIn.TheOpen.{Right-F, RightIn-F}
use Rattle.rule_ast.specs.declared.sides.RightIn.TheFolds.{fold-Right, fold-RightIn}
use Rattle.rule_ast.specs.declared.query.QueryText as query
use Rattle.rule_ast.specs.declared.query.QueryText.TheOpen.{QueryText-F}
use Rattle.rule_ast.specs.declared.query.QueryText.TheFolds.{fold-QueryText}
use Rattle.pr_value.specs.declared.property.Property.{Property}
use Rattle.rule_ast.specs.declared.parts.Operator as operator
use Rattle.rule_ast.specs.declared.parts.Algorithm.{Algorithm}
use Rattle.rule_ast.specs.declared.parts.Helper as helper
use Rattle.rule_ast.specs.declared.parts.Body as body
use Rattle.rule_ast.specs.declared.parts.TRule as trule
use Rattle.rule_ast.specs.declared.parts.IRule as irule

abbrev pub exprs_of : List Expr → Exprs
exprs_of [] = nil
exprs_of (e ∷ es) = cons e (exprs_of es)

-- one level, with each part already seen
abbrev pub expr_level : Expr-F Expr → Expr
expr_level (Expr-F.Number n) = number n
expr_level (Expr-F.Truth b) = truth b
expr_level (Expr-F.Sym s) = symbol s
expr_level (Expr-F.SetOf es) = set_of (exprs_of es)
expr_level (Expr-F.ListOf es) = list_of (exprs_of es)
expr_level (Expr-F.Var x) = var x
expr_level (Expr-F.Read d p) = read d p
expr_level (Expr-F.Call f es) = call f (exprs_of es)
expr_level (Expr-F.Binary a op b) = binary a op b
expr_level (Expr-F.Fold k x over each) = fold k x over each

abbrev pub seen_expr : expr.Expr → Expr
seen_expr = fold-Expr Expr expr_level

abbrev pub seen_stmt : stmt.Stmt → Stmt
seen_stmt (stmts.Set d p e) = set d p (seen_expr e)
seen_stmt (stmts.Copy d e) = copy d e

abbrev pub left_input_level : LeftIn-F (Tree LeftLabel) (Tree LeftLabel) → Tree LeftLabel
left_input_level (LeftIn-F.Node t) = t
left_input_level (LeftIn-F.Stream n d) = tree (LeftLabel.stream n d) []

abbrev pub left_level : Left-F (Tree LeftLabel) (Tree LeftLabel) → Tree LeftLabel
left_level l = tree (LeftLabel.operator l.op l.desc) l.inputs

abbrev pub seen_left : left.Left → Tree LeftLabel
seen_left = fold-Left (Tree LeftLabel) (Tree LeftLabel) left_input_level left_level

abbrev pub seen_left_in : left_in.LeftIn → Tree LeftLabel
seen_left_in = fold-LeftIn (Tree LeftLabel) (Tree LeftLabel) left_input_level left_level

abbrev pub right_input_level : RightIn-F (Tree RightLabel) (Tree RightLabel) → Tree RightLabel
right_input_level (RightIn-F.Node t) = t
right_input_level (RightIn-F.Stream n) = tree (RightLabel.stream n) []

abbrev pub right_level : Right-F (Tree RightLabel) (Tree RightLabel) → Tree RightLabel
right_level r = tree (RightLabel.operator r.op r.desc) r.inputs

abbrev pub seen_right : right.Right → Tree RightLabel
seen_right = fold-Right (Tree RightLabel) (Tree RightLabel) right_input_level right_level

abbrev pub seen_right_in : right_in.RightIn → Tree RightLabel
seen_right_in = fold-RightIn (Tree RightLabel) (Tree RightLabel) right_input_level right_level

abbrev pub query_level : QueryText-F (Tree QueryLabel) → Tree QueryLabel
query_level (QueryText-F.File name) = tree (QueryLabel.file name) []
query_level (QueryText-F.Node op settings qs) = tree (QueryLabel.operator op settings) qs

abbrev pub seen_query : query.QueryText → Tree QueryLabel
seen_query = fold-QueryText (Tree QueryLabel) query_level

abbrev pub seen_operator : operator.Operator → Operator
seen_operator o = record { name = o.name; views = o.views; own = o.own; init = map seen_stmt o.init }

abbrev pub seen_helper : helper.Helper → Helper
seen_helper h = record { name = h.name; params = h.params; result = h.result; body = seen_expr h.body }

abbrev pub seen_body : body.Body → Body
seen_body b = record { pre = map seen_stmt b.pre; test = seen_expr b.test; post = map seen_stmt b.post }

abbrev pub seen_trule : trule.TRule → TRule
seen_trule r = record { name = r.name; left = seen_left r.left; right = seen_right r.right; body = seen_body r.body }

abbrev pub seen_irule : irule.IRule → IRule
seen_irule r = record { name = r.name; left = seen_left r.left; right = r.right; body = seen_body r.body }

-- the rule set of these sections
abbrev pub seen_parts : List Property → List operator.Operator → List Algorithm → List helper.Helper → List trule.TRule → List irule.IRule → Rules
seen_parts properties operators algorithms helpers trules irules =
    record {
      properties = properties;
      operators = map seen_operator operators;
      algorithms = algorithms;
      helpers = map seen_helper helpers;
      trules = map seen_trule trules;
      irules = map seen_irule irules;
    }
