-- How deep the JSON value of a certificate nests.
use Rattle.std.proofs.Common.{ℕ, suc, max, ◌≤◌, List, [], ◌∷◌, map, arith}
use Rattle.std.specs.Prelude.{codes}
use Rattle.std.specs.List.{AllByRecursion}
use Rattle.std.specs.Ordering.{nat_cmp, match_ordering}
use Rattle.std.specs.declared.cmp.Ordering.{Ordering}
use Rattle.std.specs.declared.cmp.Ordering.TheVariants.{Less, Equal, Greater}
use Rattle.std.specs.Cmp.Lexicographic.{slice_cmp}
use Rattle.serde_json.specs.Data.{Data, string, object, Members, no_members, member, put, depth, items_depth, members_depth}
use Rattle.serde_json.specs.View.{items_of}
use Rattle.pr_value.specs.Symbols.{Symbol}
use Rattle.pr_value.specs.declared.value.Value.{Value}
use Rattle.pr_value.specs.declared.value.Value.TheVariants as value
use Rattle.bound_certificate.specs.Fields.{Field}
use Rattle.bound_certificate.specs.Written.{class_data, cost_data, desc_data, field_data, goal_data, line_data, list_data, node_data, number_data, step_data, symbol_data, tagged, value_data, with_reason, word_of, certificate_members}
use Rattle.bound_certificate.specs.declared.certificate.Certificate.{Certificate}
use Rattle.bound_certificate.specs.declared.cost.CertCost.{CertCost}
use Rattle.bound_certificate.specs.declared.cost.CertCost.TheVariants as cost
use Rattle.bound_certificate.specs.declared.goal.CertGoal.{CertGoal}
use Rattle.bound_certificate.specs.declared.line.CertLine.{CertLine}
use Rattle.bound_certificate.specs.declared.line.CertReason.{CertReason}
use Rattle.bound_certificate.specs.declared.line.CertReason.TheVariants as reason
use Rattle.bound_certificate.specs.declared.node.CertNode.{CertNode}
use Rattle.bound_certificate.specs.declared.node.CertNode.TheVariants as node
use Rattle.bound_certificate.specs.declared.step.CertStep.{CertStep}
use Rattle.bound_certificate.specs.declared.step.CertStep.TheVariants as step

max_most : (a b n : ℕ) → a ≤ n → b ≤ n → max a b ≤ n
max_most a b n p q = omega (arith, p, q)

items_most : {A : Type 0} (of : A → Data) (n : ℕ) → ((x : A) → depth (of x) ≤ n) → (xs : List A) → items_depth (items_of (map of xs)) ≤ n
items_most of n each [] = omega arith
items_most of n each (x ∷ xs) = max_most (depth (of x)) (items_depth (items_of (map of xs))) n (each x) (items_most of n each xs)

list_most : {A : Type 0} (of : A → Data) (n : ℕ) → ((x : A) → depth (of x) ≤ n) → (xs : List A) → depth (list_data of xs) ≤ suc n
list_most of n each xs = omega (arith, items_most of n each xs)

put_most : (k : List ℕ) (d : Data) (n : ℕ) (ms : Members) → depth d ≤ n → members_depth ms ≤ n → members_depth (put k d ms) ≤ n
put_most k d n no_members low below = max_most (depth d) 0 n low (omega arith)
put_most k d n (member l e ms) low below = by_order (slice_cmp nat_cmp k l) (put_most k d n ms low (rest (depth e) (members_depth ms) below)) where
  rest : (a b : ℕ) → max a b ≤ n → b ≤ n
  rest a b h = omega (arith, h)

  first : (a b : ℕ) → max a b ≤ n → a ≤ n
  first a b h = omega (arith, h)

  by_order : (o : Ordering) → members_depth (put k d ms) ≤ n → members_depth (match_ordering o (member k d (member l e ms)) (member l d ms) (member l e (put k d ms))) ≤ n
  by_order Less more = max_most (depth d) (members_depth (member l e ms)) n low below
  by_order Equal more = max_most (depth d) (members_depth ms) n low (rest (depth e) (members_depth ms) below)
  by_order Greater more = max_most (depth e) (members_depth (put k d ms)) n (first (depth e) (members_depth ms) below) more

-- ---- objects by their members, the last put first

abbrev putting : List (List ℕ × Data) → Members → Members
putting [] ms = ms
putting (e ∷ es) ms = put e.0 e.1 (putting es ms)

abbrev AreMost : ℕ → List (List ℕ × Data) → Type 0
AreMost n es = AllByRecursion (λ e. depth e.1 ≤ n) es

putting_most : (n : ℕ) (es : List (List ℕ × Data)) (ms : Members) → AreMost n es → members_depth ms ≤ n → members_depth (putting es ms) ≤ n
putting_most n [] ms all low = low
putting_most n (e ∷ es) ms all low = put_most e.0 e.1 n (putting es ms) all.0 (putting_most n es ms all.1 low)

object_most : (n : ℕ) (ms : Members) → members_depth ms ≤ n → depth (object ms) ≤ suc n
object_most n ms low = omega (arith, low)

members_most : (n : ℕ) (es : List (List ℕ × Data)) → AreMost n es → depth (object (putting es no_members)) ≤ suc n
members_most n es all = object_most n (putting es no_members) (putting_most n es no_members all (omega arith))

tagged_most : (tag : List ℕ) (d : Data) (n : ℕ) → depth d ≤ n → depth (tagged tag d) ≤ suc n
tagged_most tag d n low = members_most n ((tag, d) ∷ []) (low, tt)

number_most : (m n : ℕ) → depth (number_data m) ≤ n
number_most m n = omega arith

numbers_most : (ms : List ℕ) → depth (list_data number_data ms) ≤ 1
numbers_most ms = list_most number_data 0 (λ m. number_most m 0) ms

up : (a m n : ℕ) → a ≤ m → m ≤ n → a ≤ n
up a m n p q = omega (arith, p, q)

cost_most : (c : CertCost) (n : ℕ) → depth (cost_data c) ≤ n
cost_most (cost.Number m) n = omega arith
cost_most cost.NoPlan n = omega arith

word_most : (r : CertReason) (n : ℕ) → depth (string (word_of r)) ≤ n
word_most r n = omega arith

module _ (symbols : List Symbol) where
  symbol_most : (s : Symbol) (n : ℕ) → depth (symbol_data symbols s) ≤ n
  symbol_most s n = omega arith

  symbols_most : (ss : List Symbol) → depth (list_data (symbol_data symbols) ss) ≤ 1
  symbols_most ss = list_most (symbol_data symbols) 0 (λ s. symbol_most s 0) ss

  value_most : (v : Value) → depth (value_data symbols v) ≤ 2
  value_most (value.Num n) = omega arith
  value_most (value.Truth b) = omega arith
  value_most (value.Sym s) = tagged_most (codes "sym") (symbol_data symbols s) 1 (symbol_most s 1)
  value_most (value.Set ss) = tagged_most (codes "set") (list_data (symbol_data symbols) ss) 1 (symbols_most ss)
  value_most (value.List ss) = tagged_most (codes "list") (list_data (symbol_data symbols) ss) 1 (symbols_most ss)

  field_most : (f : Field) → depth (field_data symbols f) ≤ 3
  field_most f = omega (arith, max_most (depth (symbol_data symbols f.name)) (max (depth (value_data symbols f.value)) 0) 2 (symbol_most f.name 2) (max_most (depth (value_data symbols f.value)) 0 2 (value_most f.value) (omega arith)))

  desc_most : (fs : List Field) → depth (desc_data symbols fs) ≤ 4
  desc_most fs = list_most (field_data symbols) 3 field_most fs

  inputs_most : (ins : List ℕ) → depth (list_data number_data ins) ≤ 4
  inputs_most ins = up (depth (list_data number_data ins)) 1 4 (numbers_most ins) (omega arith)

  node_most : (n : CertNode) → depth (node_data symbols n) ≤ 5
  node_most (node.File name) = tagged_most (codes "file") (symbol_data symbols name) 4 (symbol_most name 4)
  node_most (node.Op op set ins) =
      members_most 4 ((codes "in", list_data number_data ins) ∷ (codes "set", desc_data symbols set) ∷ (codes "op", symbol_data symbols op) ∷ [])
      (inputs_most ins, (desc_most set, (symbol_most op 4, tt)))

  reason_most : (why : CertReason) (ms : Members) → members_depth ms ≤ 4 → members_depth (with_reason symbols why ms) ≤ 4
  reason_most reason.Query ms low = low
  reason_most (reason.Part of at) ms low = putting_most 4 ((codes "at", number_data at) ∷ (codes "of", number_data of) ∷ []) ms (number_most at 4, (number_most of 4, tt)) low
  reason_most (reason.Rule of rule) ms low = putting_most 4 ((codes "rule", symbol_data symbols rule) ∷ (codes "of", number_data of) ∷ []) ms (symbol_most rule 4, (number_most of 4, tt)) low
  reason_most (reason.Turn of) ms low = putting_most 4 ((codes "of", number_data of) ∷ []) ms (number_most of 4, tt) low
  reason_most (reason.Chain first second) ms low = putting_most 4 ((codes "second", number_data second) ∷ (codes "first", number_data first) ∷ []) ms (number_most second 4, (number_most first 4, tt)) low
  reason_most (reason.Inside of at by) ms low =
      putting_most 4 ((codes "with", number_data by) ∷ (codes "at", number_data at) ∷ (codes "of", number_data of) ∷ []) ms (number_most by 4, (number_most at 4, (number_most of 4, tt))) low

  line_most : (l : CertLine) → depth (line_data symbols l) ≤ 5
  line_most l =
      let before : List (List ℕ × Data) = (codes "by", string (word_of l.why)) ∷ (codes "right", number_data l.right) ∷ (codes "left", number_data l.left) ∷ [] in
      object_most 4 (with_reason symbols l.why (putting before no_members))
      (reason_most l.why (putting before no_members) (putting_most 4 before no_members (word_most l.why 4, (number_most l.right 4, (number_most l.left 4, tt))) (omega arith)))

  step_most : (s : CertStep) → depth (step_data symbols s) ≤ 5
  step_most (step.File name) = tagged_most (codes "file") (symbol_data symbols name) 4 (symbol_most name 4)
  step_most (step.Rule rule ins) =
      members_most 4 ((codes "in", list_data number_data ins) ∷ (codes "rule", symbol_data symbols rule) ∷ []) (inputs_most ins, (symbol_most rule 4, tt))

  goal_most : (g : CertGoal) → depth (goal_data symbols g) ≤ 5
  goal_most g =
      members_most 4 ((codes "bound", cost_data g.bound) ∷ (codes "ask", desc_data symbols g.ask) ∷ (codes "class", number_data g.class) ∷ [])
      (cost_most g.bound 4, (desc_most g.ask, (number_most g.class 4, tt)))

  class_most : (ns : List CertNode) → depth (class_data symbols ns) ≤ 6
  class_most ns = list_most (node_data symbols) 5 node_most ns

  -- the members of a certificate, the last first
  abbrev entries : Certificate → List (List ℕ × Data)
  entries c =
      (codes "goals", list_data (goal_data symbols) c.goals) ∷ (codes "root", number_data c.root)
      ∷ (codes "classes", list_data (class_data symbols) c.classes) ∷ (codes "plan", list_data (step_data symbols) c.plan)
      ∷ (codes "line", number_data c.line) ∷ (codes "lines", list_data (line_data symbols) c.lines)
      ∷ (codes "nodes", list_data (node_data symbols) c.nodes) ∷ (codes "names", list_data string symbols)
      ∷ (codes "verdict", cost_data c.verdict) ∷ (codes "format", number_data 2) ∷ []

  names_most : depth (list_data string symbols) ≤ 1
  names_most = list_most string 0 (λ s. omega arith) symbols

  entries_most : (c : Certificate) → AreMost 7 (entries c)
  entries_most c =
      let goals = up (depth (list_data (goal_data symbols) c.goals)) 6 7 (list_most (goal_data symbols) 5 goal_most c.goals) (omega arith) in
      let classes = list_most (class_data symbols) 6 class_most c.classes in
      let plan = up (depth (list_data (step_data symbols) c.plan)) 6 7 (list_most (step_data symbols) 5 step_most c.plan) (omega arith) in
      let lines = up (depth (list_data (line_data symbols) c.lines)) 6 7 (list_most (line_data symbols) 5 line_most c.lines) (omega arith) in
      let nodes = up (depth (list_data (node_data symbols) c.nodes)) 6 7 (list_most (node_data symbols) 5 node_most c.nodes) (omega arith) in
      let names = up (depth (list_data string symbols)) 1 7 names_most (omega arith) in
      (goals, (number_most c.root 7, (classes, (plan, (number_most c.line 7, (lines, (nodes, (names, (cost_most c.verdict 7, (number_most 2 7, tt))))))))))

  pub certificate_most : (c : Certificate) → depth (object (certificate_members symbols c)) ≤ 8
  certificate_most c = members_most 7 (entries c) (entries_most c)
