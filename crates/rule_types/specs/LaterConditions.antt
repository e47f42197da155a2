-- In which declaration the conditions on statements, costs, enforcers and physical properties hold.
use Rattle.std.specs.Prelude.{ℕ, ◌-◌, Bool, true, false, not, ◌&&◌, ◌||◌, List, [], ◌∷◌, length, take, Option, Some, None, is_some, if◌then◌else◌}
use Rattle.std.specs.List.{list_any}
use Rattle.std.specs.Str.{bytes_eq}
use Rattle.pr_value.specs.Symbols.{Symbol}
use Rattle.pr_value.specs.SymbolSets.{contains}
use Rattle.pr_value.specs.Trees.{Tree, label}
use Rattle.rule_ast.specs.CostForms.{cost_name, is_cost_form, reads_cost_of}
use Rattle.rule_ast.specs.CostGiven.{but_last, cost_of}
use Rattle.rule_ast.specs.Descs.{names_of}
use Rattle.rule_ast.specs.Roles.{is_enforcer, is_null, is_physical}
use Rattle.rule_ast.specs.Syntax.{Expr, read, Stmt, set, copy, LeftLabel, RightLabel, Body, IRule, Rules}
use Rattle.rule_ast.specs.declared.sides.ImplIn.{ImplIn}
use Rattle.rule_types.specs.Declarations.{Declaration, operator, trule, irule}
use Rattle.rule_types.specs.Uses.{reading, assigning, copying, Question, any_use_in, any_use_of, uses, any_node}

-- ---- CopyPlace

abbrev pub is_copy : Question
is_copy folds (copying d e) = true
is_copy folds _ = false

-- an I-rule has a whole copy
abbrev pub copy_place : Declaration → Bool
copy_place (irule i) = uses is_copy (irule i)
copy_place _ = false

-- ---- AssignTarget and InputInPost

abbrev pub has_desc : Symbol → RightLabel → ℕ → Bool
has_desc e (RightLabel.operator o d) n = bytes_eq d e
has_desc e (RightLabel.stream s) n = false

-- what an operator may change is its own descriptor, what a T-rule may change are its right nodes,
-- and what an I-rule may change are the algorithm and its inputs
abbrev pub is_target : Declaration → Symbol → Bool
is_target (operator o) e = bytes_eq o.this.own e
is_target (trule t) e = any_node (has_desc e) t.this.right
is_target (irule i) e = contains (names_of i.this.right.inputs) e || bytes_eq i.this.right.desc e
is_target _ e = false

abbrev pub changes_another : Declaration → Question
changes_another x folds (assigning d p) = not (is_target x d)
changes_another x folds (copying d e) = not (is_target x d)
changes_another x folds _ = false

abbrev pub assign_target : Declaration → Bool
assign_target x = uses (changes_another x) x

abbrev pub changes_input : List ImplIn → Question
changes_input inputs folds (assigning d p) = contains (names_of inputs) d
changes_input inputs folds (copying d e) = contains (names_of inputs) d
changes_input inputs folds _ = false

-- a statement behind the test changes an input of the algorithm
abbrev pub input_in_post : Declaration → Bool
input_in_post (irule i) =
    list_any (any_use_in (changes_input i.this.right.inputs)) i.this.body.post
input_in_post _ = false

-- ---- CostAssigned, CostMissing and CostRead

abbrev pub post_without_cost : Symbol → IRule → List Stmt
post_without_cost cost i = if is_some (cost_of cost i) then but_last i.body.post else i.body.post

-- an I-rule's body without the statement that gives the cost
abbrev pub without_cost : Symbol → IRule → Body
without_cost cost i = record {
  pre = i.body.pre;
  test = i.body.test;
  post = post_without_cost cost i;
}

abbrev pub assigns_cost : Symbol → Question
assigns_cost cost folds (assigning d p) = bytes_eq p cost
assigns_cost cost folds _ = false

abbrev pub cost_assigned_in : Symbol → Declaration → Bool
cost_assigned_in cost (irule i) = any_use_of (assigns_cost cost) (without_cost cost i.this)
cost_assigned_in cost d = uses (assigns_cost cost) d

abbrev pub cost_assigned : Rules → Declaration → Bool
cost_assigned r = cost_assigned_in (cost_name r.properties)

abbrev pub cost_missing_in : Symbol → Declaration → Bool
cost_missing_in cost (irule i) = not (is_some (cost_of cost i.this))
cost_missing_in cost _ = false

abbrev pub cost_missing : Rules → Declaration → Bool
cost_missing r = cost_missing_in (cost_name r.properties)

-- the question holds of the expression, where there is one
abbrev pub holds_of : (Expr → Bool) → Option Expr → Bool
holds_of asked (Some e) = asked e
holds_of asked None = false

abbrev pub is_cost_read : Symbol → Question
is_cost_read cost folds (reading d p) = bytes_eq p cost
is_cost_read cost folds _ = false

-- the cost of what is no input
abbrev pub reads_another : Symbol → List ImplIn → Expr → Bool
reads_another cost inputs e = not (reads_cost_of cost (names_of inputs) e)

abbrev pub cost_read_in : Symbol → Declaration → Bool
cost_read_in cost (irule i) =
    any_use_of (is_cost_read cost) (without_cost cost i.this) ||
    holds_of (reads_another cost i.this.right.inputs) (cost_of cost i.this)
cost_read_in cost d = uses (is_cost_read cost) d

abbrev pub cost_read : Rules → Declaration → Bool
cost_read r = cost_read_in (cost_name r.properties)

-- ---- CostForm and NullForm

abbrev pub lacks_form : Symbol → Expr → Bool
lacks_form cost e = not (is_cost_form cost e)

abbrev pub cost_form_in : Symbol → Declaration → Bool
cost_form_in cost (irule i) = holds_of (lacks_form cost) (cost_of cost i.this)
cost_form_in cost _ = false

abbrev pub cost_form : Rules → Declaration → Bool
cost_form r = cost_form_in (cost_name r.properties)

abbrev pub reads_cost_alone : Symbol → Symbol → Expr → Bool
reads_cost_alone cost d (read e p) = bytes_eq e d && bytes_eq p cost
reads_cost_alone cost d _ = false

-- the statement sets the cost of the first descriptor to that of the second
abbrev pub moves_cost : Symbol → Symbol → Symbol → Stmt → Bool
moves_cost cost d e (set f p value) =
    bytes_eq f d && bytes_eq p cost && reads_cost_alone cost e value
moves_cost cost d e (copy f g) = false

-- the one statement sets the descriptor's cost to that of the one input
abbrev pub passes_cost : Symbol → Symbol → List ImplIn → List Stmt → Bool
passes_cost cost d (input ∷ []) (s ∷ []) = moves_cost cost d input.desc s
passes_cost cost d _ _ = false

abbrev pub null_form_in : Symbol → Declaration → Bool
null_form_in cost (irule i) =
    is_null i.this.right.alg &&
    not (passes_cost cost i.this.right.desc i.this.right.inputs i.this.body.post)
null_form_in cost _ = false

abbrev pub null_form : Rules → Declaration → Bool
null_form r = null_form_in (cost_name r.properties)

-- ---- EnforcerLeft and EnforcerRoot

abbrev pub is_left_enforcer : List IRule → LeftLabel → ℕ → Bool
is_left_enforcer rules (LeftLabel.operator o d) n = is_enforcer rules o
is_left_enforcer rules (LeftLabel.stream s d) n = false

abbrev pub enforcer_left : Rules → Declaration → Bool
enforcer_left r (trule t) = any_node (is_left_enforcer r.irules) t.this.left
enforcer_left r _ = false

abbrev pub is_right_enforcer : List IRule → RightLabel → Bool
is_right_enforcer rules (RightLabel.operator o d) = is_enforcer rules o
is_right_enforcer rules (RightLabel.stream s) = false

abbrev pub enforcer_root : Rules → Declaration → Bool
enforcer_root r (trule t) = is_right_enforcer r.irules (label t.this.right)
enforcer_root r _ = false

-- ---- PhysicalInTRule and InputNotPhysical

-- a node of this descriptor that is no enforcer
abbrev pub is_plain_node : List IRule → Symbol → RightLabel → ℕ → Bool
is_plain_node rules e (RightLabel.operator o d) n = bytes_eq d e && not (is_enforcer rules o)
is_plain_node rules e (RightLabel.stream s) n = false

abbrev pub assigns_physical : List IRule → Tree RightLabel → Question
assigns_physical rules right folds (assigning d p) =
    is_physical rules p && any_node (is_plain_node rules d) right
assigns_physical rules right folds _ = false

abbrev pub physical_in_trule : Rules → Declaration → Bool
physical_in_trule r (trule t) = uses (assigns_physical r.irules t.this.right) (trule t)
physical_in_trule r _ = false

abbrev pub assigns_unphysical : List IRule → List ImplIn → Question
assigns_unphysical rules inputs folds (assigning d p) =
    contains (names_of inputs) d && not (is_physical rules p)
assigns_unphysical rules inputs folds _ = false

abbrev pub input_not_physical : Rules → Declaration → Bool
input_not_physical r (irule i) =
    uses (assigns_unphysical r.irules i.this.right.inputs) (irule i)
input_not_physical r _ = false
