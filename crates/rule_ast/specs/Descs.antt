-- The names of descriptors of operators and rules, and the numbers of streams, in the order of the text.
use Rattle.std.specs.Prelude.{ℕ, List, [], ◌∷◌, ◌++◌, map}
use Rattle.pr_value.specs.Symbols.{Symbol}
use Rattle.pr_value.specs.Trees.{Tree, node, Trees, nil, cons}
use Rattle.rule_ast.specs.declared.sides.ImplIn.{ImplIn}
use Rattle.rule_ast.specs.declared.sides.ImplSide.{ImplSide}
use Rattle.rule_ast.specs.Syntax.{LeftLabel, RightLabel, Operator, TRule, IRule}

-- an operator's views, and then its own
abbrev pub operator_descs : Operator → List Symbol
operator_descs o = o.views ++ o.own ∷ []

-- the nodes of a left side, the root first
abbrev mutual
  pub node_descs : Tree LeftLabel → List Symbol
  node_descs (node (LeftLabel.operator o d) ls) = d ∷ nodes_descs ls
  node_descs (node (LeftLabel.stream n d) ls) = []

  pub nodes_descs : Trees LeftLabel → List Symbol
  nodes_descs nil = []
  nodes_descs (cons l ls) = node_descs l ++ nodes_descs ls

-- the streams of a left side
abbrev mutual
  pub stream_descs : Tree LeftLabel → List Symbol
  stream_descs (node (LeftLabel.operator o d) ls) = streams_descs ls
  stream_descs (node (LeftLabel.stream n d) ls) = d ∷ []

  pub streams_descs : Trees LeftLabel → List Symbol
  streams_descs nil = []
  streams_descs (cons l ls) = stream_descs l ++ streams_descs ls

-- and their numbers
abbrev mutual
  pub stream_numbers : Tree LeftLabel → List ℕ
  stream_numbers (node (LeftLabel.operator o d) ls) = streams_numbers ls
  stream_numbers (node (LeftLabel.stream n d) ls) = n ∷ []

  pub streams_numbers : Trees LeftLabel → List ℕ
  streams_numbers nil = []
  streams_numbers (cons l ls) = stream_numbers l ++ streams_numbers ls

-- the nodes of a right side, the root first
abbrev mutual
  pub right_descs : Tree RightLabel → List Symbol
  right_descs (node (RightLabel.operator o d) rs) = d ∷ rights_descs rs
  right_descs (node (RightLabel.stream n) rs) = []

  pub rights_descs : Trees RightLabel → List Symbol
  rights_descs nil = []
  rights_descs (cons r rs) = right_descs r ++ rights_descs rs

-- the names of a left side: those of its nodes, and then those of its streams
abbrev pub left_descs : Tree LeftLabel → List Symbol
left_descs l = node_descs l ++ stream_descs l

-- the inputs of an algorithm
abbrev pub names_of : List ImplIn → List Symbol
names_of = map (λ i. i.desc)

abbrev pub impl_descs : ImplSide → List Symbol
impl_descs s = names_of s.inputs ++ s.desc ∷ []

abbrev pub trule_descs : TRule → List Symbol
trule_descs r = left_descs r.left ++ right_descs r.right

abbrev pub irule_descs : IRule → List Symbol
irule_descs r = left_descs r.left ++ impl_descs r.right
