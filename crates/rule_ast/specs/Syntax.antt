-- Rule sets and queries as the definitions see them. A side of a rule and a query are labelled trees.
use Rattle.std.specs.Prelude.{ℕ, Bool, List}
use Rattle.pr_value.specs.Symbols.{Symbol}
use Rattle.pr_value.specs.Trees.{Tree}
use Rattle.pr_value.specs.declared.kind.Kind.{Kind}
use Rattle.rule_ast.specs.declared.expr.BinOp.{BinOp}
use Rattle.rule_ast.specs.declared.expr.FoldKind.{FoldKind}
use Rattle.rule_ast.specs.declared.query.Setting.{Setting}
use Rattle.pr_value.specs.declared.property.Property.{Property}
use Rattle.rule_ast.specs.declared.parts.Algorithm.{Algorithm}
use Rattle.rule_ast.specs.declared.parts.Param.{Param}
use Rattle.rule_ast.specs.declared.sides.ImplSide.{ImplSide}

-- `Exprs` is a list of expressions, which no type may hold of itself.
mutual
  pub data Expr : Type 0 where
    number : ℕ → Expr
    truth : Bool → Expr
    symbol : Symbol → Expr
    set_of : Exprs → Expr
    list_of : Exprs → Expr
    -- a parameter or a fold's name
    var : Symbol → Expr
    -- a descriptor's property
    read : Symbol → Symbol → Expr
    call : Symbol → Exprs → Expr
    binary : Expr → BinOp → Expr → Expr
    -- what is folded, its members' name, what they come from, and what is taken of each
    fold : FoldKind → Symbol → Expr → Expr → Expr

  pub data Exprs : Type 0 where
    nil : Exprs
    cons : Expr → Exprs → Exprs

pub data Stmt : Type 0 where
  -- a descriptor's property becomes the value
  set : Symbol → Symbol → Expr → Stmt
  -- the first descriptor becomes the second
  copy : Symbol → Symbol → Stmt

-- an operator with its descriptor's name, or a stream with its number and its descriptor's name
pub data LeftLabel : Type 0 where
  operator : Symbol → Symbol → LeftLabel
  stream : ℕ → Symbol → LeftLabel

-- an operator with its descriptor's name, or a stream with its number
pub data RightLabel : Type 0 where
  operator : Symbol → Symbol → RightLabel
  stream : ℕ → RightLabel

-- a file, or an operator with its settings
pub data QueryLabel : Type 0 where
  file : Symbol → QueryLabel
  operator : Symbol → List Setting → QueryLabel

pub record Operator : Type 0 where
  pub name : Symbol
  pub views : List Symbol
  pub own : Symbol
  pub init : List Stmt

pub record Helper : Type 0 where
  pub name : Symbol
  pub params : List Param
  pub result : Kind
  pub body : Expr

pub record Body : Type 0 where
  pub pre : List Stmt
  pub test : Expr
  pub post : List Stmt

pub record TRule : Type 0 where
  pub name : Symbol
  pub left : Tree LeftLabel
  pub right : Tree RightLabel
  pub body : Body

pub record IRule : Type 0 where
  pub name : Symbol
  pub left : Tree LeftLabel
  pub right : ImplSide
  pub body : Body

pub record Rules : Type 0 where
  pub properties : List Property
  pub operators : List Operator
  pub algorithms : List Algorithm
  pub helpers : List Helper
  pub trules : List TRule
  pub irules : List IRule

-- a query is its tree
abbrev pub Query : Type 0
Query = Tree QueryLabel
