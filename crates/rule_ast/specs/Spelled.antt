-- Values that the grammar spells: names are not reserved, numbers are at most the cap, and lists are as long as they must be.
use Rattle.std.specs.Prelude.{Bool, true, false, not, ◌&&◌, nat_le, List, [], ◌∷◌, codes}
use Rattle.std.specs.List.{list_all, list_any}
use Rattle.std.specs.Str.{bytes_eq}
use Rattle.pr_value.specs.Capped.{cap}
use Rattle.pr_value.specs.Symbols.{Symbol, is_name, is_symbol}
use Rattle.pr_value.specs.Trees.{Tree, node, Trees, nil, cons}
use Rattle.rule_ast.specs.declared.parts.Algorithm.{Algorithm}
use Rattle.rule_ast.specs.declared.parts.Param.{Param}
use Rattle.pr_value.specs.declared.property.Property.{Property}
use Rattle.rule_ast.specs.declared.query.Literal.{Literal}
use Rattle.rule_ast.specs.declared.query.Literal.TheVariants as literal
use Rattle.rule_ast.specs.declared.query.Setting.{Setting}
use Rattle.rule_ast.specs.declared.sides.AlgName.{AlgName}
use Rattle.rule_ast.specs.declared.sides.AlgName.TheVariants as alg
use Rattle.rule_ast.specs.declared.sides.ImplIn.{ImplIn}
use Rattle.rule_ast.specs.declared.sides.ImplSide.{ImplSide}
use Rattle.rule_ast.specs.Syntax.{Expr, number, truth, symbol, set_of, list_of, var, read, call, binary, fold, Exprs, Stmt, LeftLabel, RightLabel, QueryLabel, Operator, Helper, Body, TRule, IRule, Rules}
use Rattle.rule_ast.specs.Syntax as syntax

abbrev pub reserved : List Symbol
reserved =
    codes "property" ∷ codes "operator" ∷ codes "algorithm" ∷ codes "helper" ∷ codes "trule" ∷ codes "irule" ∷ codes "pre" ∷ codes "test" ∷ codes "post" ∷
    codes "file" ∷ codes "Null" ∷ codes "true" ∷ codes "false" ∷ codes "in" ∷ codes "sum" ∷ codes "product" ∷ codes "any" ∷ codes "all" ∷ codes "keep" ∷ []

abbrev pub is_reserved : Symbol → Bool
is_reserved s = list_any (bytes_eq s) reserved

-- a NAME of the grammar
unfoldable pub is_free : Symbol → Bool
is_free s = is_name s && not (is_reserved s)

abbrev pub has_some : {A : Type 0} → List A → Bool
has_some [] = false
has_some (x ∷ xs) = true

abbrev mutual
  pub spells_expr : Expr → Bool
  spells_expr (number n) = nat_le n cap
  spells_expr (truth b) = true
  spells_expr (symbol s) = is_symbol s
  spells_expr (set_of es) = spells_exprs es
  spells_expr (list_of es) = spells_exprs es
  spells_expr (var x) = is_free x
  spells_expr (read d p) = is_free d && is_free p
  spells_expr (call f es) = is_free f && spells_exprs es
  spells_expr (binary a o b) = spells_expr a && spells_expr b
  spells_expr (fold k x over each) = is_free x && spells_expr over && spells_expr each

  pub spells_exprs : Exprs → Bool
  spells_exprs syntax.nil = true
  spells_exprs (syntax.cons e es) = spells_expr e && spells_exprs es

abbrev pub spells_stmt : Stmt → Bool
spells_stmt (syntax.set d p e) = is_free d && is_free p && spells_expr e
spells_stmt (syntax.copy d e) = is_free d && is_free e

abbrev pub spells_body : Body → Bool
spells_body b = list_all spells_stmt b.pre && spells_expr b.test && list_all spells_stmt b.post

abbrev pub has_inputs : {L : Type 0} → Trees L → Bool
has_inputs nil = false
has_inputs (cons t ts) = true

-- an operator with inputs, or a stream, which has none
abbrev mutual
  pub spells_left_in : Tree LeftLabel → Bool
  spells_left_in (node (LeftLabel.operator o d) ls) = is_free o && is_free d && has_inputs ls && spells_left_ins ls
  spells_left_in (node (LeftLabel.stream n d) ls) = nat_le n cap && is_free d && not (has_inputs ls)

  pub spells_left_ins : Trees LeftLabel → Bool
  spells_left_ins nil = true
  spells_left_ins (cons l ls) = spells_left_in l && spells_left_ins ls

abbrev mutual
  pub spells_right_in : Tree RightLabel → Bool
  spells_right_in (node (RightLabel.operator o d) rs) = is_free o && is_free d && has_inputs rs && spells_right_ins rs
  spells_right_in (node (RightLabel.stream n) rs) = nat_le n cap && not (has_inputs rs)

  pub spells_right_ins : Trees RightLabel → Bool
  spells_right_ins nil = true
  spells_right_ins (cons r rs) = spells_right_in r && spells_right_ins rs

-- a side has an operator at its root
abbrev pub spells_left : Tree LeftLabel → Bool
spells_left (node (LeftLabel.operator o d) ls) = spells_left_in (node (LeftLabel.operator o d) ls)
spells_left (node (LeftLabel.stream n d) ls) = false

abbrev pub spells_right : Tree RightLabel → Bool
spells_right (node (RightLabel.operator o d) rs) = spells_right_in (node (RightLabel.operator o d) rs)
spells_right (node (RightLabel.stream n) rs) = false

abbrev pub spells_alg : AlgName → Bool
spells_alg (alg.Named a) = is_free a
spells_alg alg.Null = true

abbrev pub spells_impl_in : ImplIn → Bool
spells_impl_in s = nat_le s.number cap && is_free s.desc

abbrev pub spells_impl : ImplSide → Bool
spells_impl s = spells_alg s.alg && has_some s.inputs && list_all spells_impl_in s.inputs && is_free s.desc

abbrev pub spells_property : Property → Bool
spells_property p = is_free p.name

abbrev pub spells_operator : Operator → Bool
spells_operator o = is_free o.name && has_some o.views && list_all is_free o.views && is_free o.own && list_all spells_stmt o.init

abbrev pub spells_algorithm : Algorithm → Bool
spells_algorithm a = is_free a.name && nat_le a.arity cap

abbrev pub spells_param : Param → Bool
spells_param p = is_free p.name

abbrev pub spells_helper : Helper → Bool
spells_helper h = is_free h.name && list_all spells_param h.params && spells_expr h.body

abbrev pub spells_trule : TRule → Bool
spells_trule r = is_free r.name && spells_left r.left && spells_right r.right && spells_body r.body

abbrev pub spells_irule : IRule → Bool
spells_irule r = is_free r.name && spells_left r.left && spells_impl r.right && spells_body r.body

abbrev pub spells : Rules → Bool
spells r =
    list_all spells_property r.properties && list_all spells_operator r.operators && list_all spells_algorithm r.algorithms &&
    list_all spells_helper r.helpers && list_all spells_trule r.trules && list_all spells_irule r.irules

abbrev pub spells_literal : Literal → Bool
spells_literal (literal.Number n) = nat_le n cap
spells_literal (literal.Truth b) = true
spells_literal (literal.Sym s) = is_symbol s
spells_literal (literal.SetOf ss) = list_all is_symbol ss
spells_literal (literal.ListOf ss) = list_all is_symbol ss

abbrev pub spells_setting : Setting → Bool
spells_setting s = is_free s.property && spells_literal s.value

-- an operator with inputs, or a file, which has none
abbrev mutual
  pub spells_query : Tree QueryLabel → Bool
  spells_query (node (QueryLabel.file f) qs) = is_free f && not (has_inputs qs)
  spells_query (node (QueryLabel.operator o ss) qs) = is_free o && list_all spells_setting ss && has_inputs qs && spells_queries qs

  pub spells_queries : Trees QueryLabel → Bool
  spells_queries nil = true
  spells_queries (cons q qs) = spells_query q && spells_queries qs
