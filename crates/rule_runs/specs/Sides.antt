-- Sides of rules by numbers: operators by their places of declaration, streams by their places on
-- the left side, both from 0.
use Rattle.std.specs.Prelude.{ℕ, suc, ◌==◌, List, [], ◌∷◌, if◌then◌else◌}
use Rattle.std.specs.Str.{bytes_eq}
use Rattle.pr_value.specs.Symbols.{Symbol}
use Rattle.pr_value.specs.Trees.{Tree, node, Trees, nil, cons}
use Rattle.rule_ast.specs.Descs.{stream_numbers}
use Rattle.rule_ast.specs.Syntax.{LeftLabel, RightLabel, Operator}

pub data SideLabel : Type 0 where
  operator : ℕ → SideLabel
  stream : ℕ → SideLabel

-- a left side, or a right side
abbrev pub Side : Type 0
Side = Tree SideLabel

-- the number of the operator of that name: its place of declaration, or how many there are where
-- it is not declared
abbrev pub operator_at : List Operator → Symbol → ℕ
operator_at [] name = 0
operator_at (o ∷ os) name = if bytes_eq o.name name then 0 else suc (operator_at os name)

-- the place of a number, or how many there are where it is none of them
abbrev pub place_in : List ℕ → ℕ → ℕ
place_in [] n = 0
place_in (m ∷ ms) n = if m == n then 0 else suc (place_in ms n)

-- over these operators, with these streams on the left
module _ (operators : List Operator) (numbers : List ℕ) where
  abbrev mutual
    pub left_side_in : Tree LeftLabel → Side
    left_side_in (node (LeftLabel.operator o d) ls) = node (operator (operator_at operators o)) (left_sides_in ls)
    left_side_in (node (LeftLabel.stream n d) ls) = node (stream (place_in numbers n)) nil

    pub left_sides_in : Trees LeftLabel → Trees SideLabel
    left_sides_in nil = nil
    left_sides_in (cons l ls) = cons (left_side_in l) (left_sides_in ls)

  abbrev mutual
    pub right_side_in : Tree RightLabel → Side
    right_side_in (node (RightLabel.operator o d) rs) = node (operator (operator_at operators o)) (right_sides_in rs)
    right_side_in (node (RightLabel.stream n) rs) = node (stream (place_in numbers n)) nil

    pub right_sides_in : Trees RightLabel → Trees SideLabel
    right_sides_in nil = nil
    right_sides_in (cons r rs) = cons (right_side_in r) (right_sides_in rs)

-- the left side of a rule
abbrev pub left_side : List Operator → Tree LeftLabel → Side
left_side operators l = left_side_in operators (stream_numbers l) l

-- the right side of a rule with this left side
abbrev pub right_side : List Operator → Tree LeftLabel → Tree RightLabel → Side
right_side operators l r = right_side_in operators (stream_numbers l) r
