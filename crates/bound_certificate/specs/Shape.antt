-- The JSON values that are certificates, and what each says.
use Rattle.std.specs.Prelude.{◌≡◌, ℕ, Bool, true, false, ◌==◌, nat_le, List, [], ◌∷◌, slice_get, codes, Option, Some, None, option_map, option_and_then, is_some, if◌then◌else◌, IsUtf8}
use Rattle.std.specs.Str.{bytes_eq}
use Rattle.serde_json.specs.Data.{Num, unsigned, Data, boolean, number, string, object, Items, no_items, item, Members, no_members, member}
use Rattle.serde_json.specs.Find.{get, as_array, as_number, as_object, as_str, as_u64}
use Rattle.serde_json.specs.Read.{read}
use Rattle.pr_value.specs.Capped.{cap}
use Rattle.pr_value.specs.Repeats.{are_distinct}
use Rattle.pr_value.specs.Symbols.{Symbol, is_name}
use Rattle.pr_value.specs.SymbolSets.{set_of}
use Rattle.pr_value.specs.declared.value.Value.{Value}
use Rattle.pr_value.specs.declared.value.Value.TheVariants as value
use Rattle.value_json.specs.Parts as plain
use Rattle.value_json.specs.Values as plain_values
use Rattle.bound_certificate.specs.Fields.{Field, in_order}
use Rattle.bound_certificate.specs.declared.certificate.Certificate.{Certificate}
use Rattle.bound_certificate.specs.declared.cost.CertCost.{CertCost}
use Rattle.bound_certificate.specs.declared.cost.CertCost.TheVariants as cost
use Rattle.bound_certificate.specs.declared.error.CertPart.{CertPart}
use Rattle.bound_certificate.specs.declared.error.CertPart.TheVariants as part
use Rattle.bound_certificate.specs.declared.form.Form.{Form}
use Rattle.bound_certificate.specs.declared.form.Form.TheVariants as form
use Rattle.bound_certificate.specs.declared.goal.CertGoal.{CertGoal}
use Rattle.bound_certificate.specs.declared.line.CertLine.{CertLine}
use Rattle.bound_certificate.specs.declared.line.CertReason.{CertReason}
use Rattle.bound_certificate.specs.declared.line.CertReason.TheVariants as reason
use Rattle.bound_certificate.specs.declared.node.CertNode.{CertNode}
use Rattle.bound_certificate.specs.declared.node.CertNode.TheVariants as node
use Rattle.bound_certificate.specs.declared.step.CertStep.{CertStep}
use Rattle.bound_certificate.specs.declared.step.CertStep.TheVariants as step

-- the bytes are the text of this JSON value
abbrev pub IsJson : List ℕ → Data → Type 0
IsJson bytes d = IsUtf8 bytes × (read bytes ≡ Some d)

-- ---- numbers, members and lists

-- a whole number
abbrev pub number_in : Data → Option ℕ
number_in d = option_and_then as_u64 (as_number d)

-- what the member of this name is read as
abbrev pub member_in : {A : Type 0} → (Data → Option A) → List ℕ → Data → Option A
member_in reads name d = option_and_then reads (get name d)

-- what each item is read as
abbrev pub each : {A : Type 0} → (Data → Option A) → Items → Option (List A)
each reads no_items = Some []
each reads (item d ds) =
    option_and_then (λ x. option_map (λ xs. x ∷ xs) (each reads ds)) (reads d)

-- an array of such items
abbrev pub list_in : {A : Type 0} → (Data → Option A) → Data → Option (List A)
list_in reads d = option_and_then (each reads) (as_array d)

-- a whole number up to the cap, or the words for no plan
abbrev pub cost_in : Data → Option CertCost
cost_in (number (unsigned n)) = if nat_le n cap then Some (cost.Number n) else None
cost_in (string s) = if bytes_eq s (codes "no plan") then Some cost.NoPlan else None
cost_in _ = None

-- ---- names and values, spelled or by their places in a list of symbols

abbrev pub placed_symbol : List Symbol → Data → Option Symbol
placed_symbol symbols d = option_and_then (slice_get symbols) (number_in d)

abbrev pub symbol_in : Form → Data → Option Symbol
symbol_in form.Spelled d = plain.symbol_in d
symbol_in (form.Placed symbols) d = placed_symbol symbols d

abbrev pub if_name : Symbol → Option Symbol
if_name s = if is_name s then Some s else None

-- a symbol that is a name
abbrev pub name_in : Form → Data → Option Symbol
name_in f d = option_and_then if_name (symbol_in f d)

abbrev pub number_value : Num → Option Value
number_value (unsigned n) = if nat_le n cap then Some (value.Num n) else None
number_value _ = None

-- what is read of the value that is there, or else of the rest
abbrev pub only_or : {A : Type 0} → Option Data → (Data → Option A) → Option A → Option A
only_or (Some d) reads rest = reads d
only_or None reads rest = rest

abbrev pub sym_in : Form → Data → Option Value
sym_in f d = option_map value.Sym (symbol_in f d)

abbrev pub set_in : Form → Data → Option Value
set_in f d = option_map (λ ss. value.Set (set_of ss)) (list_in (symbol_in f) d)

abbrev pub symbols_in : Form → Data → Option Value
symbols_in f d = option_map value.List (list_in (symbol_in f) d)

-- the only member is `sym`, a symbol, or `set` or `list`, an array of symbols
abbrev pub tagged_in : Form → Members → Option Value
tagged_in f ms =
    only_or (plain.only (codes "sym") ms) (sym_in f)
    (only_or (plain.only (codes "set") ms) (set_in f)
    (only_or (plain.only (codes "list") ms) (symbols_in f) None))

-- a value whose symbols are tagged
abbrev pub tagged_value : Form → Data → Option Value
tagged_value f (number n) = number_value n
tagged_value f (boolean b) = Some (value.Truth b)
tagged_value f (object ms) = tagged_in f ms
tagged_value f _ = None

abbrev pub value_in : Form → Data → Option Value
value_in form.Spelled d = plain_values.value_in d
value_in (form.Placed symbols) d = tagged_value (form.Placed symbols) d

-- ---- descriptors

abbrev pub made_field : Symbol → Value → Field
made_field name value = record { name = name; value = value }

abbrev pub field_if : Option Symbol → Option Value → Option Field
field_if name value = option_and_then (λ s. option_map (made_field s) value) name

-- a pair of a name and a value
abbrev pub pair_of : Form → Items → Option Field
pair_of f (item n (item v no_items)) = field_if (name_in f n) (value_in f v)
pair_of f _ = None

abbrev pub pair_in : Form → Data → Option Field
pair_in f d = option_and_then (pair_of f) (as_array d)

abbrev pub member_field : List ℕ → Data → Option Field
member_field n v = field_if (plain.name_in n) (plain_values.value_in v)

-- a field for each member
abbrev pub members_in : Members → Option (List Field)
members_in no_members = Some []
members_in (member n v ms) =
    option_and_then (λ x. option_map (λ xs. x ∷ xs) (members_in ms)) (member_field n v)

-- an object of spelled names, or an array of pairs
abbrev pub fields_in : Form → Data → Option (List Field)
fields_in form.Spelled d = option_and_then members_in (as_object d)
fields_in (form.Placed symbols) d = list_in (pair_in (form.Placed symbols)) d

-- names that differ, with values
abbrev pub desc_in : Form → Data → Option (List Field)
desc_in f d = option_and_then in_order (fields_in f d)

-- ---- the parts

abbrev pub op_in : Form → Data → Option CertNode
op_in f d =
    option_and_then (λ op. option_and_then (λ set. option_map (λ ins. node.Op op set ins)
    (member_in (list_in number_in) (codes "in") d)) (member_in (desc_in f) (codes "set") d))
    (member_in (name_in f) (codes "op") d)

-- with a member `file` a file, else an operator
abbrev pub node_if : Form → Option Data → Data → Option CertNode
node_if f (Some name) d = option_map node.File (name_in f name)
node_if f None d = op_in f d

abbrev pub node_in : Form → Data → Option CertNode
node_in f d = node_if f (get (codes "file") d) d

abbrev pub class_in : Form → Data → Option (List CertNode)
class_in f d = list_in (node_in f) d

abbrev pub part_in : Data → Option CertReason
part_in d =
    option_and_then (λ of. option_map (λ at. reason.Part of at)
    (member_in number_in (codes "at") d)) (member_in number_in (codes "of") d)

abbrev pub rule_in : Form → Data → Option CertReason
rule_in f d =
    option_and_then (λ of. option_map (λ rule. reason.Rule of rule)
    (member_in (name_in f) (codes "rule") d)) (member_in number_in (codes "of") d)

abbrev pub turn_in : Data → Option CertReason
turn_in d = option_map reason.Turn (member_in number_in (codes "of") d)

abbrev pub chain_in : Data → Option CertReason
chain_in d =
    option_and_then (λ first. option_map (λ second. reason.Chain first second)
    (member_in number_in (codes "second") d)) (member_in number_in (codes "first") d)

abbrev pub inside_in : Data → Option CertReason
inside_in d =
    option_and_then (λ of. option_and_then (λ at. option_map (λ by. reason.Inside of at by)
    (member_in number_in (codes "with") d)) (member_in number_in (codes "at") d))
    (member_in number_in (codes "of") d)

-- the reason that goes by this word
abbrev pub reason_by : Form → Data → List ℕ → Option CertReason
reason_by f d by =
    if bytes_eq by (codes "query") then Some reason.Query else
    (if bytes_eq by (codes "part") then part_in d else
    (if bytes_eq by (codes "rule") then rule_in f d else
    (if bytes_eq by (codes "turn") then turn_in d else
    (if bytes_eq by (codes "chain") then chain_in d else
    (if bytes_eq by (codes "inside") then inside_in d else None)))))

abbrev pub reason_in : Form → Data → Option CertReason
reason_in f d = option_and_then (reason_by f d) (member_in as_str (codes "by") d)

abbrev pub line_in : Form → Data → Option CertLine
line_in f d =
    option_and_then (λ left. option_and_then (λ right. option_map
    (λ why. record { left = left; right = right; why = why }) (reason_in f d))
    (member_in number_in (codes "right") d)) (member_in number_in (codes "left") d)

abbrev pub use_in : Form → Data → Option CertStep
use_in f d =
    option_and_then (λ rule. option_map (λ ins. step.Rule rule ins)
    (member_in (list_in number_in) (codes "in") d)) (member_in (name_in f) (codes "rule") d)

abbrev pub step_if : Form → Option Data → Data → Option CertStep
step_if f (Some name) d = option_map step.File (name_in f name)
step_if f None d = use_in f d

abbrev pub step_in : Form → Data → Option CertStep
step_in f d = step_if f (get (codes "file") d) d

abbrev pub goal_in : Form → Data → Option CertGoal
goal_in f d =
    option_and_then (λ class. option_and_then (λ ask. option_map
    (λ bound. record { class = class; ask = ask; bound = bound })
    (member_in cost_in (codes "bound") d)) (member_in (desc_in f) (codes "ask") d))
    (member_in number_in (codes "class") d)

-- ---- the whole

-- whether the format is the second, of the two that there are
abbrev pub is_second : ℕ → Option Bool
is_second n = if n == 1 then Some false else (if n == 2 then Some true else None)

abbrev pub format_in : Data → Option Bool
format_in d = option_and_then is_second (member_in number_in (codes "format") d)

abbrev pub if_distinct : List Symbol → Option (List Symbol)
if_distinct ss = if are_distinct ss then Some ss else None

-- different symbols
abbrev pub names_in : Data → Option (List Symbol)
names_in d = option_and_then if_distinct (plain_values.list_in d)

-- the first format spells its names, the second lists them
abbrev pub form_if : Bool → Data → Option Form
form_if false d = Some form.Spelled
form_if true d = option_map form.Placed (member_in names_in (codes "names") d)

abbrev pub form_in : Data → Option Form
form_in d = option_and_then (λ second. form_if second d) (format_in d)

-- the list that is the member of this name, read as the format has it
abbrev pub part_list : {A : Type 0} → (Form → Data → Option A) → List ℕ → Data → Option (List A)
part_list reads name d = option_and_then (λ f. member_in (list_in (reads f)) name d) (form_in d)

abbrev pub verdict_in : Data → Option CertCost
verdict_in d = member_in cost_in (codes "verdict") d

abbrev pub nodes_in : Data → Option (List CertNode)
nodes_in d = part_list node_in (codes "nodes") d

abbrev pub lines_in : Data → Option (List CertLine)
lines_in d = part_list line_in (codes "lines") d

abbrev pub chosen_in : Data → Option ℕ
chosen_in d = member_in number_in (codes "line") d

abbrev pub plan_in : Data → Option (List CertStep)
plan_in d = part_list step_in (codes "plan") d

abbrev pub classes_in : Data → Option (List (List CertNode))
classes_in d = part_list class_in (codes "classes") d

abbrev pub root_in : Data → Option ℕ
root_in d = member_in number_in (codes "root") d

abbrev pub goals_in : Data → Option (List CertGoal)
goals_in d = part_list goal_in (codes "goals") d

-- this part, unless it has its form, or else the rest
abbrev pub bad_unless : Bool → CertPart → Option CertPart → Option CertPart
bad_unless formed p rest = if formed then rest else Some p

-- the first part that lacks its form, of those behind the names
abbrev pub bad_behind : Data → Option CertPart
bad_behind d =
    bad_unless (is_some (nodes_in d)) part.Nodes
    (bad_unless (is_some (lines_in d)) part.Lines
    (bad_unless (is_some (chosen_in d)) part.Line
    (bad_unless (is_some (plan_in d)) part.Plan
    (bad_unless (is_some (classes_in d)) part.Classes
    (bad_unless (is_some (root_in d)) part.Root
    (bad_unless (is_some (goals_in d)) part.Goals None))))))

-- the first part that lacks its form
abbrev pub first_bad : Data → Option CertPart
first_bad d =
    bad_unless (is_some (as_object d)) part.Top
    (bad_unless (is_some (format_in d)) part.Format
    (bad_unless (is_some (verdict_in d)) part.Verdict
    (bad_unless (is_some (form_in d)) part.Names (bad_behind d))))

-- the certificate has just the parts that the JSON value has
pub record Says (c : Certificate) (d : Data) : Type 0 where
  pub verdict : verdict_in d ≡ Some c.verdict
  pub nodes : nodes_in d ≡ Some c.nodes
  pub lines : lines_in d ≡ Some c.lines
  pub line : chosen_in d ≡ Some c.line
  pub plan : plan_in d ≡ Some c.plan
  pub classes : classes_in d ≡ Some c.classes
  pub root : root_in d ≡ Some c.root
  pub goals : goals_in d ≡ Some c.goals
