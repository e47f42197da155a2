-- Why a query builds no tree, and what is told of it.
use Rattle.std.specs.Prelude.{◌≡◌, ℕ, Bool, true, false, not, ◌||◌, nat_lt, List, [], ◌∷◌, ◌++◌, length, Option, Some, None, option_map, ⊤, if◌then◌else◌}
use Rattle.std.specs.List.{list_any}
use Rattle.std.specs.Option.{option_or}
use Rattle.pr_value.specs.Symbols.{Symbol}
use Rattle.pr_value.specs.SymbolSets.{contains}
use Rattle.pr_value.specs.Trees.{node, Trees, nil, cons, list_of}
use Rattle.pr_value.specs.Values.{has_kind}
use Rattle.pr_value.specs.declared.kind.Kind.{Kind}
use Rattle.pr_value.specs.declared.property.Property.{Property}
use Rattle.pr_value.specs.declared.value.Value.{Value}
use Rattle.catalog.specs.Contents.{Field, Entry, listed, free, unknown, Catalog, field, entry}
use Rattle.rule_ast.specs.CostForms.{is_cost}
use Rattle.rule_ast.specs.declared.query.Setting.{Setting}
use Rattle.rule_ast.specs.Syntax.{QueryLabel, Rules, Query}
use Rattle.rule_ast.specs.Typing.{property_kind}
use Rattle.rule_types.specs.Conditions.{operator_names, property_names, takes}
use Rattle.query_build.specs.Query.{literal_value, fields_in}
use Rattle.query_build.specs.declared.refusal.QueryRefusal.{QueryRefusal}
use Rattle.query_build.specs.declared.refusal.QueryRefusal.TheVariants as refusal

-- a file, or an operator with its settings, and how many inputs it has
pub record Part : Type 0 where
  pub label : QueryLabel
  pub inputs : ℕ

-- the nodes of a query in the order of its text
abbrev mutual
  pub parts : Query → List Part
  parts (node l qs) = record { label = l; inputs = length (list_of qs) } ∷ parts_of qs

  pub parts_of : Trees QueryLabel → List Part
  parts_of nil = []
  parts_of (cons q qs) = parts q ++ parts_of qs

-- a condition names what is at fault at a node, or nothing
abbrev pub Condition : Type 0
Condition = QueryLabel → ℕ → Option Symbol

-- what it names first
abbrev pub first_named : Condition → List Part → Option Symbol
first_named condition [] = None
first_named condition (p ∷ ps) = option_or (condition p.label p.inputs) (first_named condition ps)

abbrev pub named_if : Bool → Symbol → Option Symbol
named_if holds name = if holds then Some name else None

-- ---- the conditions

abbrev pub most_nodes : ℕ
most_nodes = 256

abbrev pub unknown_operator : Rules → Condition
unknown_operator r (QueryLabel.file name) n = None
unknown_operator r (QueryLabel.operator o ss) n = named_if (not (contains (operator_names r.operators) o)) o

abbrev pub is_unknown : Entry → Bool
is_unknown (listed fields) = false
is_unknown free = false
is_unknown unknown = true

abbrev pub unknown_file : Catalog → Condition
unknown_file c (QueryLabel.file name) n = named_if (is_unknown (entry c name)) name
unknown_file c (QueryLabel.operator o ss) n = None

abbrev pub wrong_arity : Rules → Condition
wrong_arity r (QueryLabel.file name) n = None
wrong_arity r (QueryLabel.operator o ss) n = named_if (not (takes r.operators o n)) o

-- the property of the first setting of which it holds
abbrev pub first_setting : (Setting → Bool) → List Setting → Option Symbol
first_setting holds [] = None
first_setting holds (s ∷ ss) = if holds s then Some s.property else first_setting holds ss

abbrev pub is_undeclared : Rules → Setting → Bool
is_undeclared r s = not (contains (property_names r.properties) s.property)

abbrev pub unknown_property : Rules → Condition
unknown_property r (QueryLabel.file name) n = None
unknown_property r (QueryLabel.operator o ss) n = first_setting (is_undeclared r) ss

-- the value is not of the kind, or is one for the cost
abbrev pub is_wrong : Kind → Value → Bool
is_wrong k v = is_cost k || not (has_kind k v)

abbrev pub is_wrong_for : Option Kind → Value → Bool
is_wrong_for None v = false
is_wrong_for (Some k) v = is_wrong k v

abbrev pub is_wrong_setting : Rules → Setting → Bool
is_wrong_setting r s = is_wrong_for (property_kind r.properties s.property) (literal_value s.value)

abbrev pub is_wrong_field : Property → Option Value → Bool
is_wrong_field p None = false
is_wrong_field p (Some v) = is_wrong p.kind v

-- the file has a wrong value for a declared property
abbrev pub is_wrong_file : Rules → List Field → Bool
is_wrong_file r fields = list_any (λ p. is_wrong_field p (field fields p.name)) r.properties

abbrev pub wrong_type : Rules → Catalog → Condition
wrong_type r c (QueryLabel.file name) n = named_if (is_wrong_file r (fields_in (entry c name))) name
wrong_type r c (QueryLabel.operator o ss) n = first_setting (is_wrong_setting r) ss

-- ---- the first that holds

abbrev pub told : (Symbol → QueryRefusal) → Condition → Query → Option QueryRefusal
told refusal condition q = option_map refusal (first_named condition (parts q))

-- why the query is refused, unless it builds a tree
abbrev pub refusal_of : Rules → Catalog → Query → Option QueryRefusal
refusal_of r c q =
    if nat_lt most_nodes (length (parts q)) then Some refusal.TooManyNodes
    else option_or (told refusal.UnknownOperator (unknown_operator r) q)
    (option_or (told refusal.UnknownFile (unknown_file c) q)
    (option_or (told refusal.Arity (wrong_arity r) q)
    (option_or (told refusal.UnknownProperty (unknown_property r) q)
    (told refusal.WrongType (wrong_type r c) q))))

-- the refusal is told, or memory is wanting
abbrev pub IsTold : Option QueryRefusal → QueryRefusal → Type 0
IsTold why refusal.Memory = ⊤
IsTold why told = why ≡ Some told
