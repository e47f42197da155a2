-- The JSON value of a certificate in format 2, and the symbols that stand in it.
use Rattle.std.specs.Prelude.{◌≡◌, ℕ, zero, suc, true, List, [], ◌∷◌, ◌++◌, map, codes, Some, if◌then◌else◌}
use Rattle.std.specs.List.{AllByRecursion, flat_map}
use Rattle.std.specs.Str.{bytes_eq}
use Rattle.serde_json.specs.Data.{unsigned, Data, boolean, number, string, array, object, Members, no_members, put}
use Rattle.serde_json.specs.View.{items_of}
use Rattle.pr_value.specs.Symbols.{Symbol}
use Rattle.pr_value.specs.SymbolSets.{contains, set_of}
use Rattle.pr_value.specs.declared.value.Value.{Value}
use Rattle.pr_value.specs.declared.value.Value.TheVariants as value
use Rattle.bound_certificate.specs.Fields.{Field}
use Rattle.bound_certificate.specs.Shape.{member_in, names_in}
use Rattle.bound_certificate.specs.declared.certificate.Certificate.{Certificate}
use Rattle.bound_certificate.specs.declared.cost.CertCost.{CertCost}
use Rattle.bound_certificate.specs.declared.cost.CertCost.TheVariants as cost
use Rattle.bound_certificate.specs.declared.goal.CertGoal.{CertGoal}
use Rattle.bound_certificate.specs.declared.line.CertLine.{CertLine}
use Rattle.bound_certificate.specs.declared.line.CertReason.{CertReason}
use Rattle.bound_certificate.specs.declared.line.CertReason.TheVariants as reason
use Rattle.bound_certificate.specs.declared.node.CertNode.{CertNode}
use Rattle.bound_certificate.specs.declared.node.CertNode.TheVariants as node
use Rattle.bound_certificate.specs.declared.step.CertStep.{CertStep}
use Rattle.bound_certificate.specs.declared.step.CertStep.TheVariants as step

-- the place of the first of these symbols that is the one, or how many there are
abbrev pub place_of : List Symbol → Symbol → ℕ
place_of [] s = zero
place_of (t ∷ ts) s = if bytes_eq t s then zero else suc (place_of ts s)

abbrev pub number_data : ℕ → Data
number_data n = number (unsigned n)

abbrev pub list_data : {A : Type 0} → (A → Data) → List A → Data
list_data of xs = array (items_of (map of xs))

abbrev pub cost_data : CertCost → Data
cost_data (cost.Number n) = number_data n
cost_data cost.NoPlan = string (codes "no plan")

-- an object of one member
abbrev pub tagged : List ℕ → Data → Data
tagged tag d = object (put tag d no_members)

-- the word of a reason
abbrev pub word_of : CertReason → List ℕ
word_of reason.Query = codes "query"
word_of (reason.Part of at) = codes "part"
word_of (reason.Rule of rule) = codes "rule"
word_of (reason.Turn of) = codes "turn"
word_of (reason.Chain first second) = codes "chain"
word_of (reason.Inside of at by) = codes "inside"

-- with symbols by their places in a list of them
module _ (symbols : List Symbol) where
  abbrev pub symbol_data : Symbol → Data
  symbol_data s = number_data (place_of symbols s)

  abbrev pub value_data : Value → Data
  value_data (value.Num n) = number_data n
  value_data (value.Truth b) = boolean b
  value_data (value.Sym s) = tagged (codes "sym") (symbol_data s)
  value_data (value.Set ss) = tagged (codes "set") (list_data symbol_data ss)
  value_data (value.List ss) = tagged (codes "list") (list_data symbol_data ss)

  abbrev pub field_data : Field → Data
  field_data f = array (items_of (symbol_data f.name ∷ value_data f.value ∷ []))

  abbrev pub desc_data : List Field → Data
  desc_data fs = list_data field_data fs

  abbrev pub op_data : Symbol → List Field → List ℕ → Data
  op_data op set ins =
      object (put (codes "in") (list_data number_data ins)
      (put (codes "set") (desc_data set) (put (codes "op") (symbol_data op) no_members)))

  abbrev pub node_data : CertNode → Data
  node_data (node.File name) = tagged (codes "file") (symbol_data name)
  node_data (node.Op op set ins) = op_data op set ins

  abbrev pub class_data : List CertNode → Data
  class_data rows = list_data node_data rows

  -- the members of a reason besides its word
  abbrev pub with_reason : CertReason → Members → Members
  with_reason reason.Query ms = ms
  with_reason (reason.Part of at) ms =
      put (codes "at") (number_data at) (put (codes "of") (number_data of) ms)
  with_reason (reason.Rule of rule) ms =
      put (codes "rule") (symbol_data rule) (put (codes "of") (number_data of) ms)
  with_reason (reason.Turn of) ms = put (codes "of") (number_data of) ms
  with_reason (reason.Chain first second) ms =
      put (codes "second") (number_data second) (put (codes "first") (number_data first) ms)
  with_reason (reason.Inside of at by) ms =
      put (codes "with") (number_data by) (put (codes "at") (number_data at)
      (put (codes "of") (number_data of) ms))

  abbrev pub line_data : CertLine → Data
  line_data l =
      object (with_reason l.why (put (codes "by") (string (word_of l.why))
      (put (codes "right") (number_data l.right)
      (put (codes "left") (number_data l.left) no_members))))

  abbrev pub use_data : Symbol → List ℕ → Data
  use_data rule ins =
      object (put (codes "in") (list_data number_data ins)
      (put (codes "rule") (symbol_data rule) no_members))

  abbrev pub step_data : CertStep → Data
  step_data (step.File name) = tagged (codes "file") (symbol_data name)
  step_data (step.Rule rule ins) = use_data rule ins

  abbrev pub goal_data : CertGoal → Data
  goal_data g =
      object (put (codes "bound") (cost_data g.bound) (put (codes "ask") (desc_data g.ask)
      (put (codes "class") (number_data g.class) no_members)))

  abbrev pub certificate_members : Certificate → Members
  certificate_members c =
      put (codes "goals") (list_data goal_data c.goals)
      (put (codes "root") (number_data c.root)
      (put (codes "classes") (list_data class_data c.classes)
      (put (codes "plan") (list_data step_data c.plan)
      (put (codes "line") (number_data c.line)
      (put (codes "lines") (list_data line_data c.lines)
      (put (codes "nodes") (list_data node_data c.nodes)
      (put (codes "names") (list_data string symbols)
      (put (codes "verdict") (cost_data c.verdict)
      (put (codes "format") (number_data 2) no_members)))))))))

-- ---- the symbols of a part, in its order

abbrev pub value_symbols : Value → List Symbol
value_symbols (value.Num n) = []
value_symbols (value.Truth b) = []
value_symbols (value.Sym s) = s ∷ []
value_symbols (value.Set ss) = ss
value_symbols (value.List ss) = ss

abbrev pub field_symbols : Field → List Symbol
field_symbols f = f.name ∷ value_symbols f.value

abbrev pub desc_symbols : List Field → List Symbol
desc_symbols fs = flat_map field_symbols fs

abbrev pub node_symbols : CertNode → List Symbol
node_symbols (node.File name) = name ∷ []
node_symbols (node.Op op set ins) = op ∷ desc_symbols set

abbrev pub class_symbols : List CertNode → List Symbol
class_symbols rows = flat_map node_symbols rows

abbrev pub line_symbols_by : CertReason → List Symbol
line_symbols_by (reason.Rule of rule) = rule ∷ []
line_symbols_by _ = []

abbrev pub line_symbols : CertLine → List Symbol
line_symbols l = line_symbols_by l.why

abbrev pub step_symbols : CertStep → List Symbol
step_symbols (step.File name) = name ∷ []
step_symbols (step.Rule rule ins) = rule ∷ []

abbrev pub goal_symbols : CertGoal → List Symbol
goal_symbols g = desc_symbols g.ask

abbrev pub symbols_of : Certificate → List Symbol
symbols_of c =
    flat_map node_symbols c.nodes ++ flat_map line_symbols c.lines
    ++ flat_map step_symbols c.plan ++ flat_map class_symbols c.classes
    ++ flat_map goal_symbols c.goals

-- each symbol of the certificate once
abbrev pub names_of : Certificate → List Symbol
names_of c = set_of (symbols_of c)

abbrev pub certificate_data : Certificate → Data
certificate_data c = object (certificate_members (names_of c) c)

-- each name that the JSON value lists stands in the certificate
abbrev pub AreUsed : Certificate → Data → Type 0
AreUsed c d =
    (names : List Symbol) → member_in names_in (codes "names") d ≡ Some names
    → AllByRecursion (λ s. contains (symbols_of c) s ≡ true) names
