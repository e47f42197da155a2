-- What is known of a rule set that is accepted, by what the crates above need of it.
use Rattle.std.specs.Prelude.{◌≡◌, ◌≤◌, Bool, true, false, not, ◌&&◌, ◌||◌, nat_le, List, [], ◌∷◌, length, map, Some, if◌then◌else◌}
use Rattle.std.specs.List.{list_all, list_any}
use Rattle.std.specs.Str.{bytes_eq}
use Rattle.pr_value.specs.Repeats.{are_distinct}
use Rattle.pr_value.specs.Symbols.{Symbol}
use Rattle.pr_value.specs.SymbolSets.{contains}
use Rattle.pr_value.specs.Trees.{Tree, node, label, list_of}
use Rattle.pr_value.specs.declared.kind.Kind.TheVariants as kind
use Rattle.pr_value.specs.declared.property.Property.{Property}
use Rattle.rule_ast.specs.CostForms.{cost_name, is_cost, is_cost_form, reads_cost_of}
use Rattle.rule_ast.specs.CostGiven.{cost_of}
use Rattle.rule_ast.specs.Descs.{names_of, operator_descs, stream_numbers, trule_descs, irule_descs}
use Rattle.rule_ast.specs.Roles.{is_null}
use Rattle.rule_ast.specs.Syntax.{Expr, Stmt, LeftLabel, Body, Operator, TRule, IRule, Rules}
use Rattle.rule_ast.specs.Typing.{Context, are_typed, is_type, is_typed_body, is_typed_stmt, property_kind, signatures_of, type_of}
use Rattle.rule_types.specs.Conditions.{algorithm_names, are_numbers_distinct, helper_names, irule_names, is_arity, most_declared, most_nodes, most_properties, operator_names, property_names, same_numbers, trule_names, unknown_in_irule, unknown_in_trule, wrong_in_irule, wrong_in_trule}
use Rattle.rule_types.specs.LaterConditions.{assigns_cost, assigns_physical, assigns_unphysical, changes_input, has_desc, holds_of, is_copy, is_cost_read, is_left_enforcer, is_right_enforcer, passes_cost, without_cost}
use Rattle.rule_types.specs.Uses.{Question, assigning, copying, any_node, any_use_in, any_use_of, counts_left, counts_right, nodes}

-- ---- types

abbrev pub has_typed_init : Rules → Operator → Bool
has_typed_init r o =
    list_all (is_typed_stmt r.properties (signatures_of r.helpers) context) o.init where
      context : Context
      context = record { descs = operator_descs o; vars = [] }

abbrev pub is_typed_trule : Rules → TRule → Bool
is_typed_trule r t =
    is_typed_body r.properties (signatures_of r.helpers) context t.body where
      context : Context
      context = record { descs = trule_descs t; vars = [] }

abbrev pub is_typed_irule : Rules → IRule → Bool
is_typed_irule r i =
    is_typed_body r.properties (signatures_of r.helpers) context i.body where
      context : Context
      context = record { descs = irule_descs i; vars = [] }

-- helpers, initializers and rules are well typed, each over the names that it may use
pub record IsWellTyped (r : Rules) : Type 0 where
  pub helpers : are_typed r.properties [] r.helpers ≡ true
  pub inits : list_all (has_typed_init r) r.operators ≡ true
  pub trules : list_all (is_typed_trule r) r.trules ≡ true
  pub irules : list_all (is_typed_irule r) r.irules ≡ true

-- ---- limits and names

-- no section has more declarations than it may have
pub record IsWithinLimits (r : Rules) : Type 0 where
  pub properties : length r.properties ≤ most_properties
  pub operators : length r.operators ≤ most_declared
  pub algorithms : length r.algorithms ≤ most_declared
  pub helpers : length r.helpers ≤ most_declared
  pub trules : length r.trules ≤ most_declared
  pub irules : length r.irules ≤ most_declared

-- no name is declared twice in a section
pub record HasDistinctNames (r : Rules) : Type 0 where
  pub properties : are_distinct (property_names r.properties) ≡ true
  pub operators : are_distinct (operator_names r.operators) ≡ true
  pub algorithms : are_distinct (algorithm_names r.algorithms) ≡ true
  pub helpers : are_distinct (helper_names r.helpers) ≡ true
  pub trules : are_distinct (trule_names r.trules) ≡ true
  pub irules : are_distinct (irule_names r.irules) ≡ true

-- the descriptors of each operator, each rule and the inputs of each algorithm are distinct
pub record HasDistinctDescs (r : Rules) : Type 0 where
  pub operators : list_all (λ o. are_distinct (operator_descs o)) r.operators ≡ true
  pub trules : list_all (λ t. are_distinct (trule_descs t)) r.trules ≡ true
  pub irules : list_all (λ i. are_distinct (irule_descs i)) r.irules ≡ true
  pub inputs : list_all (λ i. are_distinct (names_of i.right.inputs)) r.irules ≡ true

-- ---- arities

-- operators and algorithms take 1 to 4 inputs; what stands on a side is declared, and has as many
pub record HasArities (r : Rules) : Type 0 where
  pub operators : list_all (λ o. is_arity (length o.views)) r.operators ≡ true
  pub algorithms : list_all (λ a. is_arity a.arity) r.algorithms ≡ true
  pub trules : list_all (λ t. not (wrong_in_trule r t)) r.trules ≡ true
  pub irules : list_all (λ i. not (wrong_in_irule r i)) r.irules ≡ true

-- the operators, algorithms and right streams of sides are declared
pub record HasKnownSides (r : Rules) : Type 0 where
  pub trules : list_all (λ t. not (unknown_in_trule r t)) r.trules ≡ true
  pub irules : list_all (λ i. not (unknown_in_irule r i)) r.irules ≡ true

-- ---- sides of rules

-- streams are distinct, and no enforcer stands on the left side or at the right root
abbrev pub is_sound_trule : Rules → TRule → Bool
is_sound_trule r t =
    are_numbers_distinct (stream_numbers t.left) &&
    not (any_node (is_left_enforcer r.irules) t.left) &&
    not (is_right_enforcer r.irules (label t.right))

abbrev pub is_stream : Tree LeftLabel → Bool
is_stream (node (LeftLabel.operator o d) ts) = false
is_stream (node (LeftLabel.stream n d) ts) = true

-- the inputs of an operator are streams
abbrev pub is_flat : Tree LeftLabel → Bool
is_flat (node (LeftLabel.operator o d) ts) = list_all is_stream (list_of ts)
is_flat (node (LeftLabel.stream n d) ts) = true

-- an operator over distinct streams, which are those of the algorithm, in their order
abbrev pub is_sound_irule : IRule → Bool
is_sound_irule i =
    is_flat i.left && are_numbers_distinct (stream_numbers i.left) &&
    same_numbers (map (λ s. s.number) i.right.inputs) (stream_numbers i.left)

-- neither side has more operators than it may have
abbrev pub is_small_trule : TRule → Bool
is_small_trule t =
    nat_le (nodes counts_left t.left) most_nodes && nat_le (nodes counts_right t.right) most_nodes

-- the streams, the enforcers and the sizes of sides
pub record HasSoundSides (r : Rules) : Type 0 where
  pub trules : list_all (is_sound_trule r) r.trules ≡ true
  pub sizes : list_all is_small_trule r.trules ≡ true
  pub irules : list_all is_sound_irule r.irules ≡ true

-- ---- costs

-- the question holds of no use in the statements
abbrev pub no_use_in : Question → List Stmt → Bool
no_use_in asked ss = not (list_any (any_use_in asked) ss)

abbrev pub no_use_of : Question → Body → Bool
no_use_of asked b = not (any_use_of asked b)

abbrev pub costs_of : List Property → List Property
costs_of [] = []
costs_of (p ∷ ps) = if is_cost p.kind then p ∷ costs_of ps else costs_of ps

-- one property is the cost, and it alone is declared as a cost
pub record HasOneCost (r : Rules) : Type 0 where
  pub one : length (costs_of r.properties) ≡ 1
  pub declared : property_kind r.properties (cost_name r.properties) ≡ Some kind.Cost
  pub only : (name : Symbol) →
      property_kind r.properties name ≡ Some kind.Cost → name ≡ cost_name r.properties

abbrev pub is_sound_cost : Symbol → IRule → Expr → Bool
is_sound_cost cost i e = is_cost_form cost e && reads_cost_of cost (names_of i.right.inputs) e

abbrev pub gives_cost : Symbol → IRule → Bool
gives_cost cost i = holds_of (is_sound_cost cost i) (cost_of cost i)

abbrev pub is_number : Rules → IRule → Expr → Bool
is_number r i e =
    is_type kind.Num (type_of r.properties (signatures_of r.helpers) context e) where
      context : Context
      context = record { descs = irule_descs i; vars = [] }

abbrev pub gives_number : Rules → IRule → Bool
gives_number r i = holds_of (is_number r i) (cost_of (cost_name r.properties) i)

-- each I-rule ends with its cost: a number, by a form over the costs of its inputs
pub record GivesCosts (r : Rules) : Type 0 where
  pub forms : list_all (gives_cost (cost_name r.properties)) r.irules ≡ true
  pub numbers : list_all (gives_number r) r.irules ≡ true

-- no use of which this is asked stands elsewhere than in the costs that I-rules give
pub record IsInCostsAlone (asked : Question) (cost : Symbol) (r : Rules) : Type 0 where
  pub inits : list_all (λ o. no_use_in asked o.init) r.operators ≡ true
  pub trules : list_all (λ t. no_use_of asked t.body) r.trules ≡ true
  pub irules : list_all (λ i. no_use_of asked (without_cost cost i)) r.irules ≡ true

-- the cost is assigned by the last statement of an I-rule alone
abbrev pub AssignsCostsLast : Rules → Type 0
AssignsCostsLast r = IsInCostsAlone (assigns_cost cost) cost r where
  cost : Symbol
  cost = cost_name r.properties

-- and read there alone
abbrev pub ReadsCostsLast : Rules → Type 0
ReadsCostsLast r = IsInCostsAlone (is_cost_read cost) cost r where
  cost : Symbol
  cost = cost_name r.properties

-- no I-rule has a whole copy
abbrev pub HasNoCopies : Rules → Type 0
HasNoCopies r = list_all (λ i. no_use_of is_copy i.body) r.irules ≡ true

-- ---- what statements change

-- a change of a descriptor that is none of these
abbrev pub changes_but : (Symbol → Bool) → Question
changes_but is_one folds (assigning d p) = not (is_one d)
changes_but is_one folds (copying d e) = not (is_one d)
changes_but is_one folds _ = false

abbrev pub is_right_node : TRule → Symbol → Bool
is_right_node t e = any_node (has_desc e) t.right

abbrev pub is_of_algorithm : IRule → Symbol → Bool
is_of_algorithm i e = contains (names_of i.right.inputs) e || bytes_eq i.right.desc e

-- an initializer changes the operator's own descriptor, a T-rule those of its right nodes, and an
-- I-rule those of the algorithm and, before its test, of the inputs
pub record ChangesItsOwn (r : Rules) : Type 0 where
  pub inits : list_all (λ o. no_use_in (changes_but (bytes_eq o.own)) o.init) r.operators ≡ true
  pub trules : list_all (λ t. no_use_of (changes_but (is_right_node t)) t.body) r.trules ≡ true
  pub irules : list_all (λ i. no_use_of (changes_but (is_of_algorithm i)) i.body) r.irules ≡ true
  pub posts : list_all (λ i. no_use_in (changes_input i.right.inputs) i.body.post) r.irules ≡ true

-- T-rules assign physical properties to enforcers alone, and I-rules no others to inputs
pub record AssignsPhysical (r : Rules) : Type 0 where
  pub trules : list_all (λ t. no_use_of (assigns_physical r.irules t.right) t.body) r.trules ≡ true
  pub irules :
      list_all (λ i. no_use_of (assigns_unphysical r.irules i.right.inputs) i.body) r.irules ≡ true

-- where it is a rule to Null, what is behind its test passes on its input's cost, and no more
abbrev pub is_sound_null : Symbol → IRule → Bool
is_sound_null cost i =
    not (is_null i.right.alg) || passes_cost cost i.right.desc i.right.inputs i.body.post

abbrev pub HasSoundNulls : Rules → Type 0
HasSoundNulls r = list_all (is_sound_null (cost_name r.properties)) r.irules ≡ true
