-- What is written of the parts of a certificate is read as them.
use Rattle.std.proofs.Common.{◌≡◌, ℕ, Bool, true, cond, List, [], ◌∷◌, ◌++◌, map, Option, Some, None, option_map, option_and_then, refl, ap, ◌∙◌}
use Rattle.std.specs.Cmp.{first_so, second_so}
use Rattle.std.specs.List.{AllByRecursion, flat_map, list_all}
use Rattle.serde_json.specs.Data.{Data, string}
use Rattle.serde_json.specs.View.{items_of}
use Rattle.pr_value.specs.Symbols.{Symbol, is_name, is_symbol}
use Rattle.pr_value.specs.SymbolSets.{ascends, set_of}
use Rattle.pr_value.specs.Values.{is_capped}
use Rattle.pr_value.specs.declared.value.Value.{Value}
use Rattle.pr_value.specs.declared.value.Value.TheVariants as value
use Rattle.value_json.specs.Values as plain
use Rattle.bound_certificate.specs.Fields.{Field, desc_fine, field_fine, in_order, value_fine}
use Rattle.bound_certificate.specs.Formed.{class_fine, cost_formed, goal_fine, goal_formed, line_formed, node_fine, node_formed, reason_formed, step_formed}
use Rattle.bound_certificate.specs.Shape.{class_in, cost_in, desc_in, each, goal_in, if_distinct, if_name, line_in, list_in, name_in, names_in, node_in, number_in, pair_in, step_in, symbol_in, value_in}
use Rattle.bound_certificate.specs.Written.{class_data, class_symbols, cost_data, desc_data, desc_symbols, field_data, field_symbols, goal_data, goal_symbols, line_data, line_symbols, list_data, node_data, node_symbols, number_data, step_data, step_symbols, symbol_data, value_data, value_symbols}
use Rattle.bound_certificate.specs.declared.cost.CertCost.{CertCost}
use Rattle.bound_certificate.specs.declared.cost.CertCost.TheVariants as cost
use Rattle.bound_certificate.specs.declared.form.Form.{Form}
use Rattle.bound_certificate.specs.declared.form.Form.TheVariants as form
use Rattle.bound_certificate.specs.declared.goal.CertGoal.{CertGoal}
use Rattle.bound_certificate.specs.declared.line.CertLine.{CertLine}
use Rattle.bound_certificate.specs.declared.line.CertReason.{CertReason}
use Rattle.bound_certificate.specs.declared.line.CertReason.TheVariants as reason
use Rattle.bound_certificate.specs.declared.node.CertNode.{CertNode}
use Rattle.bound_certificate.specs.declared.node.CertNode.TheVariants as node
use Rattle.bound_certificate.specs.declared.step.CertStep.{CertStep}
use Rattle.bound_certificate.specs.declared.step.CertStep.TheVariants as step
use Rattle.bound_certificate.proofs.FieldLaws.{in_order-Rise}
use Rattle.bound_certificate.proofs.PlaceLaws.{In, slice_get-place_of, set_of-ascends, distinct-ascends}

-- ---- lists

pub each_again : {A : Type 0} (reads : Data → Option A) (of : A → Data) (xs : List A) → AllByRecursion (λ x. reads (of x) ≡ Some x) xs → each reads (items_of (map of xs)) ≡ Some xs
each_again reads of [] all = refl
each_again reads of (x ∷ xs) all = λ i. option_and_then (λ y. option_map (λ ys. y ∷ ys) (each_again reads of xs all.1 i)) (all.0 i)

pub list_again : {A : Type 0} (reads : Data → Option A) (of : A → Data) (xs : List A) → AllByRecursion (λ x. reads (of x) ≡ Some x) xs → list_in reads (list_data of xs) ≡ Some xs
list_again reads of xs all = each_again reads of xs all

numbers_each : (ns : List ℕ) → AllByRecursion (λ n. number_in (number_data n) ≡ Some n) ns
numbers_each [] = tt
numbers_each (n ∷ ns) = (refl, numbers_each ns)

numbers_again : (ns : List ℕ) → list_in number_in (list_data number_data ns) ≡ Some ns
numbers_again ns = list_again number_in number_data ns (numbers_each ns)

pub all-append : {A : Type 0} (P : A → Type 0) (xs ys : List A) → AllByRecursion P (xs ++ ys) → AllByRecursion P xs × AllByRecursion P ys
all-append P [] ys all = (tt, all)
all-append P (x ∷ xs) ys all = let rest = all-append P xs ys all.1 in ((all.0, rest.0), rest.1)

pub all-flat_map : {A B : Type 0} (P : B → Type 0) (f : A → List B) (xs : List A) → AllByRecursion P (flat_map f xs) → AllByRecursion (λ x. AllByRecursion P (f x)) xs
all-flat_map P f [] all = tt
all-flat_map P f (x ∷ xs) all = let parts = all-append P (f x) (flat_map f xs) all in (parts.0, all-flat_map P f xs parts.1)

-- two facts of each give a third
pub all_from : {A : Type 0} (P Q R : A → Type 0) (xs : List A) → ((x : A) → P x → Q x → R x) → AllByRecursion P xs → AllByRecursion Q xs → AllByRecursion R xs
all_from P Q R [] so ps qs = tt
all_from P Q R (x ∷ xs) so ps qs = (so x ps.0 qs.0, all_from P Q R xs so ps.1 qs.1)

pub all_holds : {A : Type 0} (p : A → Bool) (xs : List A) → list_all p xs ≡ true → AllByRecursion (λ x. p x ≡ true) xs
all_holds p [] all = tt
all_holds p (x ∷ xs) all = (first_so (p x) (list_all p xs) all, all_holds p xs (second_so (p x) (list_all p xs) all))

pub all_same : {A : Type 0} (R : A → Type 0) (xs : List A) → ((x : A) → R x) → AllByRecursion R xs
all_same R [] each = tt
all_same R (x ∷ xs) each = (each x, all_same R xs each)

-- ---- costs

pub cost_again : (c : CertCost) → cost_formed c ≡ true → cost_in (cost_data c) ≡ Some c
cost_again (cost.Number n) formed = ap (λ b. cond b (Some (cost.Number n)) None) formed
cost_again cost.NoPlan formed = refl

-- ---- with symbols by their places

module _ (symbols : List Symbol) where
  abbrev F : Form
  F = form.Placed symbols

  symbol_again : (s : Symbol) → In symbols s → symbol_in F (symbol_data symbols s) ≡ Some s
  symbol_again s there = slice_get-place_of symbols s there

  symbols_each : (ss : List Symbol) → AllByRecursion (In symbols) ss → AllByRecursion (λ s. symbol_in F (symbol_data symbols s) ≡ Some s) ss
  symbols_each [] all = tt
  symbols_each (s ∷ ss) all = (symbol_again s all.0, symbols_each ss all.1)

  symbols_again : (ss : List Symbol) → AllByRecursion (In symbols) ss → list_in (symbol_in F) (list_data (symbol_data symbols) ss) ≡ Some ss
  symbols_again ss all = list_again (symbol_in F) (symbol_data symbols) ss (symbols_each ss all)

  name_again : (s : Symbol) → In symbols s → is_name s ≡ true → name_in F (symbol_data symbols s) ≡ Some s
  name_again s there named = ap (option_and_then if_name) (symbol_again s there) ∙ ap (λ b. cond b (Some s) None) named

  value_again : (v : Value) → AllByRecursion (In symbols) (value_symbols v) → is_capped v ≡ true → value_fine v → value_in F (value_data symbols v) ≡ Some v
  value_again (value.Num n) all capped fine = ap (λ b. cond b (Some (value.Num n)) None) capped
  value_again (value.Truth b) all capped fine = refl
  value_again (value.Sym s) all capped fine = ap (option_map value.Sym) (symbol_again s all.0)
  value_again (value.Set ss) all capped fine = ap (option_map (λ ts. value.Set (set_of ts))) (symbols_again ss all) ∙ ap (λ ts. Some (value.Set ts)) (set_of-ascends ss fine)
  value_again (value.List ss) all capped fine = ap (option_map value.List) (symbols_again ss all)

  field_again : (f : Field) → AllByRecursion (In symbols) (field_symbols f) → field_fine f → pair_in F (field_data symbols f) ≡ Some f
  field_again f all fine =
      let named : is_name f.name ≡ true = first_so (is_name f.name) (is_capped f.value) fine.0 in
      let capped : is_capped f.value ≡ true = second_so (is_name f.name) (is_capped f.value) fine.0 in
      λ i. option_and_then (λ s. option_map (λ (v : Value). record { name = s; value = v }) (value_again f.value all.1 capped fine.1 i)) (name_again f.name all.0 named i)

  pub desc_again : (fs : List Field) → AllByRecursion (In symbols) (desc_symbols fs) → desc_fine fs → desc_in F (desc_data symbols fs) ≡ Some fs
  desc_again fs all fine =
      let each = all_from (λ f. AllByRecursion (In symbols) (field_symbols f)) field_fine (λ f. pair_in F (field_data symbols f) ≡ Some f) fs field_again (all-flat_map (In symbols) field_symbols fs all) fine.1 in
      ap (option_and_then in_order) (list_again (pair_in F) (field_data symbols) fs each) ∙ in_order-Rise fs fine.0

  op_again : (op : Symbol) (set : List Field) (ins : List ℕ) → AllByRecursion (In symbols) (op ∷ desc_symbols set) → is_name op ≡ true → desc_fine set → node_in F (node_data symbols (node.Op op set ins)) ≡ Some (node.Op op set ins)
  op_again op set ins all named fine = λ i.
      option_and_then (λ o. option_and_then (λ s. option_map (λ ns. node.Op o s ns) (numbers_again ins i)) (desc_again set all.1 fine i)) (name_again op all.0 named i)

  pub node_again : (n : CertNode) → AllByRecursion (In symbols) (node_symbols n) → node_formed n ≡ true → node_fine n → node_in F (node_data symbols n) ≡ Some n
  node_again (node.File name) all formed fine = ap (option_map node.File) (name_again name all.0 formed)
  node_again (node.Op op set ins) all formed fine = op_again op set ins all formed fine

  pub nodes_again : (ns : List CertNode) → AllByRecursion (In symbols) (flat_map node_symbols ns) → list_all node_formed ns ≡ true → AllByRecursion node_fine ns → list_in (node_in F) (list_data (node_data symbols) ns) ≡ Some ns
  nodes_again ns all formed fine =
      list_again (node_in F) (node_data symbols) ns (all_from _ _ (λ n. node_in F (node_data symbols n) ≡ Some n) ns (λ n both f. node_again n both.0 both.1 f)
      (all_from _ _ (λ n. AllByRecursion (In symbols) (node_symbols n) × (node_formed n ≡ true)) ns (λ n a b. (a, b)) (all-flat_map (In symbols) node_symbols ns all) (all_holds node_formed ns formed)) fine)

  pub classes_again : (cs : List (List CertNode)) → AllByRecursion (In symbols) (flat_map class_symbols cs) → list_all (list_all node_formed) cs ≡ true → AllByRecursion class_fine cs → list_in (class_in F) (list_data (class_data symbols) cs) ≡ Some cs
  classes_again cs all formed fine =
      list_again (class_in F) (class_data symbols) cs (all_from _ _ (λ ns. class_in F (class_data symbols ns) ≡ Some ns) cs (λ ns both f. nodes_again ns both.0 both.1 f)
      (all_from _ _ (λ ns. AllByRecursion (In symbols) (class_symbols ns) × (list_all node_formed ns ≡ true)) cs (λ n a b. (a, b)) (all-flat_map (In symbols) class_symbols cs all) (all_holds (list_all node_formed) cs formed)) fine)

  line_of : (left right : ℕ) (why : CertReason) → CertLine
  line_of left right why = record { left = left; right = right; why = why }

  line_again_by : (left right : ℕ) (why : CertReason) → AllByRecursion (In symbols) (line_symbols (record { left = left; right = right; why = why })) → reason_formed why ≡ true
      → line_in F (line_data symbols (record { left = left; right = right; why = why })) ≡ Some (record { left = left; right = right; why = why })
  line_again_by left right reason.Query all formed = refl
  line_again_by left right (reason.Part of at) all formed = refl
  line_again_by left right (reason.Rule of rule) all formed = λ i.
      option_map (λ w. record { left = left; right = right; why = w }) (option_map (λ r. reason.Rule of r) (name_again rule all.0 formed i))
  line_again_by left right (reason.Turn of) all formed = refl
  line_again_by left right (reason.Chain first second) all formed = refl
  line_again_by left right (reason.Inside of at by) all formed = refl

  line_again : (l : CertLine) → AllByRecursion (In symbols) (line_symbols l) → line_formed l ≡ true → line_in F (line_data symbols l) ≡ Some l
  line_again l all formed = line_again_by l.left l.right l.why all formed

  pub lines_again : (ls : List CertLine) → AllByRecursion (In symbols) (flat_map line_symbols ls) → list_all line_formed ls ≡ true → list_in (line_in F) (list_data (line_data symbols) ls) ≡ Some ls
  lines_again ls all formed =
      list_again (line_in F) (line_data symbols) ls (all_from _ _ (λ l. line_in F (line_data symbols l) ≡ Some l) ls line_again (all-flat_map (In symbols) line_symbols ls all) (all_holds line_formed ls formed))

  step_again : (s : CertStep) → AllByRecursion (In symbols) (step_symbols s) → step_formed s ≡ true → step_in F (step_data symbols s) ≡ Some s
  step_again (step.File name) all formed = ap (option_map step.File) (name_again name all.0 formed)
  step_again (step.Rule rule ins) all formed = λ i.
      option_and_then (λ r. option_map (λ ns. step.Rule r ns) (numbers_again ins i)) (name_again rule all.0 formed i)

  pub steps_again : (ss : List CertStep) → AllByRecursion (In symbols) (flat_map step_symbols ss) → list_all step_formed ss ≡ true → list_in (step_in F) (list_data (step_data symbols) ss) ≡ Some ss
  steps_again ss all formed =
      list_again (step_in F) (step_data symbols) ss (all_from _ _ (λ s. step_in F (step_data symbols s) ≡ Some s) ss step_again (all-flat_map (In symbols) step_symbols ss all) (all_holds step_formed ss formed))

  goal_again : (g : CertGoal) → AllByRecursion (In symbols) (goal_symbols g) → goal_formed g ≡ true → goal_fine g → goal_in F (goal_data symbols g) ≡ Some g
  goal_again g all formed fine = λ i.
      option_and_then (λ a. option_map (λ (b : CertCost). record { class = g.class; ask = a; bound = b }) (cost_again g.bound formed i)) (desc_again g.ask all fine i)

  pub goals_again : (gs : List CertGoal) → AllByRecursion (In symbols) (flat_map goal_symbols gs) → list_all goal_formed gs ≡ true → AllByRecursion goal_fine gs → list_in (goal_in F) (list_data (goal_data symbols) gs) ≡ Some gs
  goals_again gs all formed fine =
      list_again (goal_in F) (goal_data symbols) gs (all_from _ _ (λ g. goal_in F (goal_data symbols g) ≡ Some g) gs (λ g both f. goal_again g both.0 both.1 f)
      (all_from _ _ (λ g. AllByRecursion (In symbols) (goal_symbols g) × (goal_formed g ≡ true)) gs (λ n a b. (a, b)) (all-flat_map (In symbols) goal_symbols gs all) (all_holds goal_formed gs formed)) fine)

  -- ---- the names themselves

  spelled_again : (ss : List Symbol) → list_all is_symbol ss ≡ true → plain.symbols_in (items_of (map string ss)) ≡ Some ss
  spelled_again [] all = refl
  spelled_again (s ∷ ss) all =
      ap (λ b. cond b (option_map (λ ts. s ∷ ts) (plain.symbols_in (items_of (map string ss)))) None) (first_so (is_symbol s) (list_all is_symbol ss) all)
      ∙ ap (option_map (λ ts. s ∷ ts)) (spelled_again ss (second_so (is_symbol s) (list_all is_symbol ss) all))

  pub names_again : list_all is_symbol symbols ≡ true → ascends symbols ≡ true → names_in (list_data string symbols) ≡ Some symbols
  names_again all up = ap (option_and_then if_distinct) (spelled_again symbols all) ∙ ap (λ b. cond b (Some symbols) None) (distinct-ascends symbols up)
