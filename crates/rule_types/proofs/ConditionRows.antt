-- What the conditions say of small rule sets.
use Rattle.std.proofs.Common.{◌≡◌, true, false, List, [], ◌∷◌, codes, Some, None, refl}
use Rattle.pr_value.specs.Symbols.{Symbol}
use Rattle.pr_value.specs.Trees.{Tree, tree}
use Rattle.pr_value.specs.declared.kind.Kind.{Kind}
use Rattle.pr_value.specs.declared.kind.Kind.TheVariants as kind
use Rattle.pr_value.specs.declared.property.Property.{Property}
use Rattle.rule_ast.specs.Descs.{stream_numbers}
use Rattle.rule_ast.specs.Syntax.{LeftLabel, Rules}
use Rattle.rule_types.specs.Conditions.{are_numbers_distinct, is_arity, refused, refused_by, same_numbers}
use Rattle.rule_types.specs.Declarations.{placed}
use Rattle.rule_types.specs.Uses.{nodes, counts_left}
use Rattle.rule_types.specs.declared.refusal.RefusalKind.TheVariants as why

abbrev a : Symbol
a = codes "a"

abbrev b : Symbol
b = codes "b"

placed_two : placed (a ∷ b ∷ []) ≡ record { before = []; this = a } ∷ record { before = a ∷ []; this = b } ∷ []
placed_two = refl

-- JOIN(?1 : a, SORT(?2 : b) : b) : a
abbrev side : Tree LeftLabel
side = tree (LeftLabel.operator a a) (tree (LeftLabel.stream 1 a) [] ∷ tree (LeftLabel.operator b b) (tree (LeftLabel.stream 2 b) [] ∷ []) ∷ [])

streams_of_side : stream_numbers side ≡ 1 ∷ 2 ∷ []
streams_of_side = refl

nodes_of_side : nodes counts_left side ≡ 2
nodes_of_side = refl

repeated : are_numbers_distinct (1 ∷ 2 ∷ 1 ∷ []) ≡ false
repeated = refl

distinct : are_numbers_distinct (1 ∷ 2 ∷ 3 ∷ []) ≡ true
distinct = refl

turned : same_numbers (1 ∷ 2 ∷ []) (2 ∷ 1 ∷ []) ≡ false
turned = refl

without_inputs : is_arity 0 ≡ false
without_inputs = refl

of_five : is_arity 5 ≡ false
of_five = refl

-- a rule set of properties alone
abbrev of_properties : List Property → Rules
of_properties ps = record { properties = ps; operators = []; algorithms = []; helpers = []; trules = []; irules = [] }

abbrev property_of : Symbol → Kind → Property
property_of s k = record { name = s; kind = k }

no_cost : refused_by (of_properties (property_of a kind.Num ∷ [])) ≡ Some (refused why.NoCost (codes "-"))
no_cost = refl

one_cost : refused_by (of_properties (property_of a kind.Cost ∷ [])) ≡ None
one_cost = refl

-- the second is named
two_costs : refused_by (of_properties (property_of a kind.Cost ∷ property_of b kind.Cost ∷ [])) ≡ Some (refused why.TwoCosts b)
two_costs = refl

-- two names are asked before two costs
same_name : refused_by (of_properties (property_of a kind.Cost ∷ property_of a kind.Cost ∷ [])) ≡ Some (refused why.TwoNames a)
same_name = refl
