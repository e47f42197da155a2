-- What operators and properties are by the rules that name them.
use Rattle.std.specs.Prelude.{Bool, true, false, ◌&&◌, ◌||◌, List, ◌++◌, if◌then◌else◌}
use Rattle.std.specs.List.{list_any}
use Rattle.std.specs.Str.{bytes_eq}
use Rattle.pr_value.specs.Symbols.{Symbol}
use Rattle.pr_value.specs.SymbolSets.{contains}
use Rattle.pr_value.specs.Trees.{label}
use Rattle.pr_value.specs.declared.property.Property.{Property}
use Rattle.rule_ast.specs.declared.roles.PropertyClass.{PropertyClass}
use Rattle.rule_ast.specs.declared.roles.PropertyClass.TheVariants as class
use Rattle.rule_ast.specs.declared.sides.AlgName.{AlgName}
use Rattle.rule_ast.specs.declared.sides.AlgName.TheVariants as alg
use Rattle.rule_ast.specs.CostForms.{is_cost}
use Rattle.rule_ast.specs.Descs.{stream_descs, names_of}
use Rattle.rule_ast.specs.Reads.{Question, any_read}
use Rattle.rule_ast.specs.Syntax.{Stmt, set, copy, LeftLabel, Body, Operator, TRule, IRule, Rules}

-- ---- enforcers

abbrev pub is_null : AlgName → Bool
is_null alg.Null = true
is_null (alg.Named a) = false

-- the side is one of this operator
abbrev pub has_root : Symbol → LeftLabel → Bool
has_root op (LeftLabel.operator o d) = bytes_eq o op
has_root op (LeftLabel.stream n d) = false

abbrev pub leads_to_null : Symbol → IRule → Bool
leads_to_null op r = is_null r.right.alg && has_root op (label r.left)

-- a rule leads from the operator to Null
abbrev pub is_enforcer : List IRule → Symbol → Bool
is_enforcer rules op = list_any (leads_to_null op) rules

-- ---- classes of properties

-- the statement gives the property of one of these descriptors a value
abbrev pub assigns : List Symbol → Symbol → Stmt → Bool
assigns ds p (set d q value) = bytes_eq q p && contains ds d
assigns ds p (copy d e) = false

-- a Null rule that assigns the property to its input's descriptor
abbrev pub passes_on : Symbol → IRule → Bool
passes_on p r =
    let gives = assigns (names_of r.right.inputs) p in
    is_null r.right.alg && (list_any gives r.body.pre || list_any gives r.body.post)

abbrev pub is_physical : List IRule → Symbol → Bool
is_physical rules p = list_any (passes_on p) rules

-- the question holds of some read of the statement
abbrev pub any_read_in : Question → Stmt → Bool
any_read_in asked (set d p value) = any_read asked value
any_read_in asked (copy d e) = false

-- and of some read of the rule's statements and test
abbrev pub any_read_of_body : Question → Body → Bool
any_read_of_body asked b = list_any (any_read_in asked) b.pre || any_read asked b.test || list_any (any_read_in asked) b.post

-- a read of the property of one of these descriptors
abbrev pub of_these : List Symbol → Symbol → Question
of_these ds p d q = bytes_eq q p && contains ds d

abbrev pub operator_reads : Symbol → Operator → Bool
operator_reads p o = list_any (any_read_in (of_these o.views p)) o.init

abbrev pub trule_reads : Symbol → TRule → Bool
trule_reads p r = any_read_of_body (of_these (stream_descs r.left) p) r.body

abbrev pub irule_reads : Symbol → IRule → Bool
irule_reads p r = any_read_of_body (of_these (stream_descs r.left ++ names_of r.right.inputs) p) r.body

-- the property is read of a view, a stream, or an algorithm's input
abbrev pub is_read_of_streams : Rules → Symbol → Bool
is_read_of_streams r p = list_any (operator_reads p) r.operators || list_any (trule_reads p) r.trules || list_any (irule_reads p) r.irules

-- what the property is for
abbrev pub class_of : Rules → Property → PropertyClass
class_of r p =
    if is_cost p.kind then class.Cost
    else (if is_physical r.irules p.name then class.Physical
    else (if is_read_of_streams r p.name then class.Shared else class.Argument))
