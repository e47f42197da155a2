-- Facts about the definitions, on the sides of a rule
-- `JOIN(JOIN(?1:A, ?2:B):C, ?3:D):E => JOIN(?1, JOIN(?3, ?2):F):G`.
use Rattle.std.proofs.Common.{◌≡◌, ℕ, List, [], ◌∷◌, Some, refl}
use Rattle.pr_value.specs.Symbols.{Symbol}
use Rattle.pr_value.specs.Trees.{Tree, tree, label, inputs}
use Rattle.descriptor_types.specs.Descriptors.{Desc}
use Rattle.pr_value.specs.declared.value.Value.TheVariants as value
use Rattle.rule_runs.specs.Making.{made}
use Rattle.rule_runs.specs.Matching.{Rooted, matched}
use Rattle.rule_runs.specs.Sides.{operator, stream, left_side, right_side}
use Rattle.rule_ast.specs.Descs.{node_descs, stream_descs, stream_numbers, right_descs}
use Rattle.rule_ast.specs.Syntax.{LeftLabel, RightLabel, Operator}

abbrev join : Symbol
join = 74 ∷ []

abbrev operators : List Operator
operators = record { name = 83 ∷ []; views = []; own = []; init = [] } ∷ record { name = join; views = []; own = []; init = [] } ∷ []

abbrev left : Tree LeftLabel
left =
    tree (LeftLabel.operator join (69 ∷ [])) (
    tree (LeftLabel.operator join (67 ∷ [])) (tree (LeftLabel.stream 1 (65 ∷ [])) [] ∷ tree (LeftLabel.stream 2 (66 ∷ [])) [] ∷ [])
    ∷ tree (LeftLabel.stream 3 (68 ∷ [])) [] ∷ [])

abbrev right : Tree RightLabel
right =
    tree (RightLabel.operator join (71 ∷ [])) (
    tree (RightLabel.stream 1) []
    ∷ tree (RightLabel.operator join (70 ∷ [])) (tree (RightLabel.stream 3) [] ∷ tree (RightLabel.stream 2) [] ∷ []) ∷ [])

-- nodes: the root first; streams: as they stand
nodes_are : node_descs left ≡ (69 ∷ []) ∷ (67 ∷ []) ∷ []
nodes_are = refl

streams_are : stream_descs left ≡ (65 ∷ []) ∷ (66 ∷ []) ∷ (68 ∷ []) ∷ []
streams_are = refl

numbers_are : stream_numbers left ≡ 1 ∷ 2 ∷ 3 ∷ []
numbers_are = refl

right_nodes_are : right_descs right ≡ (71 ∷ []) ∷ (70 ∷ []) ∷ []
right_nodes_are = refl

-- by numbers: the operator is the second that is declared
left_is : left_side operators left ≡ tree (operator 1) (tree (operator 1) (tree (stream 0) [] ∷ tree (stream 1) [] ∷ []) ∷ tree (stream 2) [] ∷ [])
left_is = refl

right_is : right_side operators left right ≡ tree (operator 1) (tree (stream 0) [] ∷ tree (operator 1) (tree (stream 2) [] ∷ tree (stream 1) [] ∷ []) ∷ [])
right_is = refl

-- ---- over trees of numbers and descriptors

abbrev Node : Type 0
Node = ℕ × Desc

abbrev roots : Rooted (Tree Node)
roots = record { op = λ t. Some (label t).0; whole = λ t. (label t).1; view = λ t. value.Num 7 ∷ (label t).1; inputs = inputs }

abbrev d : ℕ → Desc
d n = value.Num n ∷ []

abbrev leaf : ℕ → Tree Node
leaf n = tree (9, d n) []

-- what the left side sees, and what its streams stand for
match_is : matched roots (left_side operators left) (tree (1, d 1) (tree (1, d 2) (leaf 3 ∷ leaf 4 ∷ []) ∷ leaf 5 ∷ []))
    ≡ Some (record {
      slots = record { nodes = d 1 ∷ d 2 ∷ []; streams = (value.Num 7 ∷ d 3) ∷ (value.Num 7 ∷ d 4) ∷ (value.Num 7 ∷ d 5) ∷ [] };
      streams = leaf 3 ∷ leaf 4 ∷ leaf 5 ∷ [];
    })
match_is = refl

-- what the right side makes of two descriptors and three trees
made_is : made (λ op e ts. tree (op, e) ts) (leaf 0) (leaf 3 ∷ leaf 4 ∷ leaf 5 ∷ []) (right_side operators left right) (d 10 ∷ d 20 ∷ [])
    ≡ tree (1, d 10) (leaf 3 ∷ tree (1, d 20) (leaf 5 ∷ leaf 4 ∷ []) ∷ [])
made_is = refl
