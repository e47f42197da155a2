-- Under which conditions a rule runs over slots. A rule of an accepted set meets those on rules.
use Rattle.std.specs.Prelude.{◌≡◌, true, List, [], length, Some}
use Rattle.std.specs.List.{list_all}
use Rattle.pr_value.specs.Repeats.{are_distinct}
use Rattle.pr_value.specs.Symbols.{Symbol}
use Rattle.pr_value.specs.declared.kind.Kind.TheVariants as kind
use Rattle.descriptor_types.specs.Descriptors.{fits}
use Rattle.rule_ast.specs.CostForms.{cost_name, is_cost_form, reads_cost_of}
use Rattle.rule_ast.specs.CostGiven.{cost_of}
use Rattle.rule_ast.specs.Descs.{node_descs, stream_descs, names_of, trule_descs, irule_descs}
use Rattle.rule_ast.specs.Syntax.{Body, Expr, LeftLabel, TRule, IRule, Rules}
use Rattle.rule_ast.specs.Typing.{are_typed, signatures_of, is_typed_body, is_type, type_of}
use Rattle.pr_value.specs.Trees.{Tree}
use Rattle.rule_runs.specs.declared.slots.Slots.{Slots}

-- the names are different, and the statements and the test are well typed over them
pub record IsTypedOver (r : Rules) (names : List Symbol) (b : Body) : Type 0 where
  pub helpers : are_typed r.properties [] r.helpers ≡ true
  pub different : are_distinct names ≡ true
  pub typed : is_typed_body r.properties (signatures_of r.helpers) (record { descs = names; vars = [] }) b ≡ true

-- a descriptor of the layout for each node of the left side, and a view for each of its streams
pub record AreSlotsOf (r : Rules) (left : Tree LeftLabel) (s : Slots) : Type 0 where
  pub nodes : length s.nodes ≡ length (node_descs left)
  pub streams : length s.streams ≡ length (stream_descs left)
  pub nodes_fit : list_all (fits r.properties) s.nodes ≡ true
  pub streams_fit : list_all (fits r.properties) s.streams ≡ true

abbrev pub CanRun : Rules → TRule → Type 0
CanRun r t = IsTypedOver r (trule_descs t) t.body

-- the last statement gives the cost, a number, by a form over the costs of the inputs
pub record GivesCost (r : Rules) (i : IRule) : Type 0 where
  pub cost : Expr
  pub given : cost_of (cost_name r.properties) i ≡ Some cost
  pub number : is_type kind.Num (type_of r.properties (signatures_of r.helpers) (record { descs = irule_descs i; vars = [] }) cost) ≡ true
  pub form : is_cost_form (cost_name r.properties) cost ≡ true
  pub of_inputs : reads_cost_of (cost_name r.properties) (names_of i.right.inputs) cost ≡ true

pub record CanImplement (r : Rules) (i : IRule) : Type 0 where
  pub typed : IsTypedOver r (irule_descs i) i.body
  pub as_many : length i.right.inputs ≡ length (stream_descs i.left)
  pub inputs : are_distinct (names_of i.right.inputs) ≡ true
  pub cost : GivesCost r i
