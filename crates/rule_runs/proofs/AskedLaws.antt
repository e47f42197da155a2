-- The environments of I-rules, what they ask, and what they cost.
use Rattle.std.proofs.Common.{◌≡◌, ℕ, zero, suc, ◌-◌, ◌≤◌, Bool, true, false, ◌||◌, List, [], ◌∷◌, ◌++◌, length, map, take, Option, Some, None, option_map, unwrap_or, refl, ap, sym, ◌∙◌, subst, append_assoc, take_all, Bor}
use Rattle.std.specs.Prelude.{zip}
use Rattle.std.specs.Cmp.{first_so, second_so}
use Rattle.std.specs.Cmp.Derive.{both_true}
use Rattle.std.specs.List.{list_all}
use Rattle.std.specs.Option.{option_copied}
use Rattle.std.specs.Str.{bytes_eq}
use Rattle.std.proofs.lemmas.List.{length-map}
use Rattle.std.proofs.lemmas.List.Folds.{list_any-append}
use Rattle.action_eval.proofs.KindLaws.{fits-desc_in}
use Rattle.action_eval.proofs.TypeLaws.{is_type-is, some-same}
use Rattle.action_eval.specs.Environments.{Env, are_typed_here, context_of, type_in}
use Rattle.action_eval.specs.Forms.{cost_in}
use Rattle.action_eval.specs.Meaning.{desc_in}
use Rattle.descriptor_types.proofs.FitLaws.{fits-only}
use Rattle.descriptor_types.specs.Descriptors.{Desc, Layout, Mask, fits, only}
use Rattle.pr_value.proofs.Shelf.{bytes_eq-itself}
use Rattle.pr_value.specs.Symbols.{Symbol}
use Rattle.pr_value.specs.SymbolSets.{contains}
use Rattle.pr_value.specs.Trees.{Tree, node, Trees}
use Rattle.pr_value.specs.declared.kind.Kind.TheVariants as kind
use Rattle.rule_ast.specs.CostForms.{cost_name, is_cost_form, reads_cost_of}
use Rattle.rule_ast.specs.CostGiven.{but_last, cost_given, cost_of}
use Rattle.rule_ast.specs.Descs.{node_descs, nodes_descs, stream_descs, left_descs, right_descs, names_of, impl_descs, irule_descs, trule_descs}
use Rattle.rule_ast.specs.Seen.{seen_expr, seen_left, seen_stmt, left_level, left_input_level}
use Rattle.rule_ast.specs.Syntax.{Expr, number, LeftLabel, TRule, IRule, Rules, Stmt}
use Rattle.rule_ast.specs.Typing.{Context, signatures_of, type_of}
use Rattle.rule_ast.specs.declared.expr.Expr as expr
use Rattle.rule_ast.specs.declared.expr.Stmt as stmt
use Rattle.rule_ast.specs.declared.sides.ImplIn.{ImplIn}
use Rattle.rule_ast.specs.declared.sides.Left as left
use Rattle.rule_ast.specs.declared.sides.Left.{out-Left}
use Rattle.rule_ast.specs.declared.sides.LeftIn.TheFolds.{fold_out-Left}
use Rattle.rule_runs.specs.Conditions.{AreSlotsOf, CanImplement}
use Rattle.rule_runs.specs.Ready.{IsReady}
use Rattle.rule_runs.specs.Runs.{Scope, asked_of_inputs, cost_expr, irule_scope, root_of}
use Rattle.rule_runs.specs.Slotting.{all_slots}
use Rattle.rule_runs.specs.declared.slots.Slots.{Slots}
use Rattle.rule_runs.proofs.RunLaws.{IsScoped, and_scope, both-fit, context-ready, left-scope, slots-fit, zipped}

-- ---- names among others

pub contains-left : (ss ts : List Symbol) (d : Symbol) → contains ss d ≡ true → contains (ss ++ ts) d ≡ true
contains-left ss ts d e = list_any-append (bytes_eq d) ss ts ∙ ap (λ b. b || contains ts d) e

or-true : (a : Bool) → (a || true) ≡ true
or-true true = refl
or-true false = refl

pub contains-right : (ss ts : List Symbol) (d : Symbol) → contains ts d ≡ true → contains (ss ++ ts) d ≡ true
contains-right ss ts d e = list_any-append (bytes_eq d) ss ts ∙ (ap (λ b. contains ss d || b) e ∙ or-true (contains ss d))

pub contains-this : (d : Symbol) (ts : List Symbol) → contains (d ∷ ts) d ≡ true
contains-this d ts = ap (λ b. b || contains ts d) (bytes_eq-itself d)

-- ---- the scope of an I-rule

-- the slots, the views again for the inputs, and the root
abbrev pub irule_slots : Slots → List Desc
irule_slots s = all_slots s ++ (s.streams ++ root_of s.nodes ∷ [])

pub irule-scoped : (r : Rules) (i : IRule) (s : Slots) → CanImplement r i → AreSlotsOf r i.left s → IsScoped (irule_descs i) (irule_slots s) (irule_scope i s)
irule-scoped r i s rule slots =
    let inputs = names_of i.right.inputs in
    let root = root_of s.nodes in
    let nodes : Scope = zip (node_descs i.left) s.nodes in
    let streams : Scope = zip (stream_descs i.left) s.streams in
    let long : length inputs ≡ length s.streams = length-map i.right.inputs (λ x. x.desc) ∙ (rule.as_many ∙ sym slots.streams) in
    let right : IsScoped (inputs ++ i.right.desc ∷ []) (s.streams ++ root ∷ []) (zip inputs s.streams ++ (i.right.desc, root) ∷ []) =
    and_scope inputs (i.right.desc ∷ []) s.streams (root ∷ []) (zip inputs s.streams) ((i.right.desc, root) ∷ []) (zipped inputs s.streams long) (record { is = refl; as_many = refl }) in
    subst (IsScoped (irule_descs i) (irule_slots s)) (append_assoc nodes streams (zip inputs s.streams ++ (i.right.desc, root) ∷ []))
    (and_scope (left_descs i.left) (inputs ++ i.right.desc ∷ []) (all_slots s) (s.streams ++ root ∷ []) (nodes ++ streams) (zip inputs s.streams ++ (i.right.desc, root) ∷ []) (left-scope r i.left s slots) right)

-- the slots, the views and the root, as they are put together
pub irule-descs : (s : Slots) (all more descs streams : List Desc) (root : Desc) → all ≡ all_slots s → streams ≡ s.streams → more ≡ all ++ streams → root ≡ root_of s.nodes → descs ≡ more ++ root ∷ [] → descs ≡ irule_slots s
irule-descs s all more descs streams root is views pushed last whole =
    whole
    ∙ (ap (λ (ds : List Desc). ds ++ root ∷ []) (pushed ∙ (ap (λ (ds : List Desc). ds ++ streams) is ∙ ap (λ (ds : List Desc). all_slots s ++ ds) views))
    ∙ (ap (λ (d : Desc). (all_slots s ++ s.streams) ++ d ∷ []) last ∙ append_assoc (all_slots s) s.streams (root_of s.nodes ∷ [])))

-- ---- its descriptors fit

some-node : (ds : List Desc) (n : ℕ) → length ds ≡ suc n → (p : Desc → Bool) → list_all p ds ≡ true → p (root_of ds) ≡ true
some-node [] n long p all = cc
some-node (d ∷ ds) n long p all = first_so _ _ all

-- a left side begins with an operator
pub record BeginsWithNode (l : List Symbol) : Type 0 where
  pub others : ℕ
  pub are : length l ≡ suc others

begins-side : (l : Tree LeftLabel) (d : Symbol) (o : Symbol) (ls : Trees LeftLabel) → l ≡ node (LeftLabel.operator o d) ls → BeginsWithNode (node_descs l)
begins-side l d o ls is = record { others = length (nodes_descs ls); are = ap (λ (x : Tree LeftLabel). length (node_descs x)) is }

pub begins : (l : left.Left) → BeginsWithNode (node_descs (seen_left l))
begins l = begins-side (seen_left l) (out-Left l).desc (out-Left l).op _ (fold_out-Left (Tree LeftLabel) (Tree LeftLabel) left_input_level left_level l)

pub irule-fits : (r : Rules) (i : IRule) (s : Slots) → BeginsWithNode (node_descs i.left) → AreSlotsOf r i.left s → list_all (fits r.properties) (irule_slots s) ≡ true
irule-fits r i s begins slots =
    both-fit r (all_slots s) (s.streams ++ root_of s.nodes ∷ []) (slots-fit r i.left s slots)
    (both-fit r s.streams (root_of s.nodes ∷ []) slots.streams_fit (both_true (some-node s.nodes begins.others (slots.nodes ∙ begins.are) (fits r.properties) slots.nodes_fit) refl))

-- ---- what stands in the environment fits

pub ready-fits : (r : Rules) (names : List Symbol) (env : Env) (d : Symbol) → IsReady r names env → contains names d ≡ true → fits r.properties (desc_in env.descs d) ≡ true
ready-fits r names env d ready there =
    let layout : env.layout ≡ r.properties = ready.sound.layout ∙ ap (λ (s : Rules). s.properties) ready.rules in
    ap (λ (l : Layout). fits l (desc_in env.descs d)) (sym layout) ∙ fits-desc_in env.layout env.descs d ready.sound.descs (ap (λ (ss : List Symbol). contains ss d) ready.bound ∙ there)

-- each of these names is one of those
abbrev pub AreAmong : List Symbol → List Symbol → Type 0
AreAmong ds names = (d : Symbol) → contains ds d ≡ true → contains names d ≡ true

pub descs-fit : (r : Rules) (names : List Symbol) (env : Env) (ds : List Symbol) → IsReady r names env → AreAmong ds names → list_all (fits r.properties) (map (desc_in env.descs) ds) ≡ true
descs-fit r names env [] ready known = refl
descs-fit r names env (d ∷ ds) ready known = both_true (ready-fits r names env d ready (known d (contains-this d ds))) (descs-fit r names env ds ready (λ e there. known e (contains-right (d ∷ []) ds e there)))

pub right-known : (t : TRule) → AreAmong (right_descs t.right) (trule_descs t)
right-known t d there = contains-right (left_descs t.left) (right_descs t.right) d there

pub algorithm-known : (i : IRule) → contains (irule_descs i) i.right.desc ≡ true
algorithm-known i = contains-right (left_descs i.left) (impl_descs i.right) i.right.desc (contains-right (names_of i.right.inputs) (i.right.desc ∷ []) i.right.desc (contains-this i.right.desc []))

pub inputs-known : (i : IRule) → AreAmong (names_of i.right.inputs) (irule_descs i)
inputs-known i d there = contains-right (left_descs i.left) (impl_descs i.right) d (contains-left (names_of i.right.inputs) (i.right.desc ∷ []) d there)

pub asked-fits : (r : Rules) (physical : Mask) (names : List Symbol) (env : Env) (ds : List Symbol) → length physical ≡ length r.properties → IsReady r names env → AreAmong ds names → list_all (fits r.properties) (map (λ d. only r.properties physical (desc_in env.descs d)) ds) ≡ true
asked-fits r physical names env [] long ready known = refl
asked-fits r physical names env (d ∷ ds) long ready known =
    both_true (fits-only r.properties physical (desc_in env.descs d) long (ready-fits r names env d ready (known d (contains-this d ds))))
    (asked-fits r physical names env ds long ready (λ e there. known e (contains-right (d ∷ []) ds e there)))

-- ---- the cost

-- the expression that gives the cost, in an environment
pub record IsCostOf (r : Rules) (i : IRule) (e : Expr) (env : Env) : Type 0 where
  pub typed : type_in env e ≡ Some kind.Num
  pub form : is_cost_form (cost_in env) e ≡ true
  pub of_inputs : reads_cost_of (cost_in env) (names_of i.right.inputs) e ≡ true
  pub is : cost_expr r i ≡ e

pub cost-there : (r : Rules) (i : IRule) → CanImplement r i → cost_of (cost_name r.properties) i ≡ None → (P : Type 0) → P
cost-there r i rule none P = let e : None ≡ Some rule.cost.cost = sym none ∙ rule.cost.given in cc

pub cost-IsCostOf : (r : Rules) (i : IRule) (e : Expr) (env : Env) → CanImplement r i → IsReady r (irule_descs i) env → cost_of (cost_name r.properties) i ≡ Some e → IsCostOf r i e env
cost-IsCostOf r i e env rule ready given =
    let g = rule.cost in
    let same : g.cost ≡ e = some-same (sym g.given ∙ given) in
    let name : cost_in env ≡ cost_name r.properties = ap (λ (s : Rules). cost_name s.properties) ready.rules in
    record {
      typed =
          ap (λ (s : Rules). type_of s.properties (signatures_of s.helpers) (context_of env) e) ready.rules
          ∙ (ap (λ (c : Context). type_of r.properties (signatures_of r.helpers) c e) (context-ready r (irule_descs i) env ready)
          ∙ (ap (type_of r.properties (signatures_of r.helpers) (record { descs = irule_descs i; vars = [] })) (sym same) ∙ is_type-is kind.Num _ g.number));
      form = ap (λ n. is_cost_form n e) name ∙ (ap (is_cost_form (cost_name r.properties)) (sym same) ∙ g.form);
      of_inputs = ap (λ n. reads_cost_of n (names_of i.right.inputs) e) name ∙ (ap (reads_cost_of (cost_name r.properties) (names_of i.right.inputs)) (sym same) ∙ g.of_inputs);
      is = ap (λ (o : Option Expr). unwrap_or o (number 0)) given;
    }

-- ---- all statements but the last

all-take : {X : Type 0} (p : X → Bool) (xs : List X) (n : ℕ) → list_all p xs ≡ true → list_all p (take n xs) ≡ true
all-take p [] zero all = refl
all-take p [] (suc n) all = refl
all-take p (x ∷ xs) zero all = refl
all-take p (x ∷ xs) (suc n) all = both_true (first_so _ _ all) (all-take p xs n (second_so _ _ all))

pub but_last-typed : (env : Env) (ss : List Stmt) → are_typed_here env ss ≡ true → are_typed_here env (but_last ss) ≡ true
but_last-typed env ss typed = all-take _ ss (length ss - 1) typed

map-take : {X Y : Type 0} (f : X → Y) (xs : List X) (n : ℕ) → map f (take n xs) ≡ take n (map f xs)
map-take f [] zero = refl
map-take f [] (suc n) = refl
map-take f (x ∷ xs) zero = refl
map-take f (x ∷ xs) (suc n) = ap (λ ys. f x ∷ ys) (map-take f xs n)

pub but_last-map : {X : Type 0} (f : X → Stmt) (xs : List X) (n : ℕ) → n ≡ length xs - 1 → map f (take n xs) ≡ but_last (map f xs)
but_last-map f xs n e = map-take f xs n ∙ (let g : n ≡ length (map f xs) - 1 = e ∙ ap (λ k. k - 1) (sym (length-map xs f)) in ap (λ k. take k (map f xs)) g)

-- ---- as the code finds the cost

given-some : (o : Option (Bor expr.Expr)) (e : Bor expr.Expr) → o ≡ Some e → option_map seen_expr (option_copied o) ≡ Some (seen_expr e.now)
given-some o e is = ap (λ (p : Option (Bor expr.Expr)). option_map seen_expr (option_copied p)) is

cost-came : (r : Rules) (i : IRule) (came : Option Expr) (ss : List stmt.Stmt) (name : Symbol) → came ≡ cost_given name i.right.desc (map seen_stmt ss) → map seen_stmt ss ≡ i.body.post → name ≡ cost_name r.properties → cost_of (cost_name r.properties) i ≡ came
cost-came r i came ss name is post cost =
    ap (λ (us : List Stmt). cost_given (cost_name r.properties) i.right.desc us) (sym post) ∙ (ap (λ (n : Symbol). cost_given n i.right.desc (map seen_stmt ss)) (sym cost) ∙ sym is)

pub cost-given : (r : Rules) (i : IRule) (o : Option (Bor expr.Expr)) (e : Bor expr.Expr) (ss : List stmt.Stmt) (name : Symbol) → option_map seen_expr (option_copied o) ≡ cost_given name i.right.desc (map seen_stmt ss) → o ≡ Some e → map seen_stmt ss ≡ i.body.post → name ≡ cost_name r.properties
    → cost_of (cost_name r.properties) i ≡ Some (seen_expr e.now)
cost-given r i o e ss name came is post cost = cost-came r i (option_map seen_expr (option_copied o)) ss name came post cost ∙ given-some o e is

pub cost-not_given : (r : Rules) (i : IRule) (o : Option (Bor expr.Expr)) (ss : List stmt.Stmt) (name : Symbol) → option_map seen_expr (option_copied o) ≡ cost_given name i.right.desc (map seen_stmt ss) → o ≡ None → map seen_stmt ss ≡ i.body.post → name ≡ cost_name r.properties
    → cost_of (cost_name r.properties) i ≡ None
cost-not_given r i o ss name came is post cost = cost-came r i (option_map seen_expr (option_copied o)) ss name came post cost ∙ ap (λ (p : Option (Bor expr.Expr)). option_map seen_expr (option_copied p)) is

-- ---- what is asked of all inputs

by-names : (g : Symbol → Desc) (xs : List ImplIn) → map (λ x. g x.desc) xs ≡ map g (names_of xs)
by-names g [] = refl
by-names g (x ∷ xs) = ap (λ (ds : List Desc). g x.desc ∷ ds) (by-names g xs)

pub asked-all : (r : Rules) (physical : Mask) (i : IRule) (env : Env) (asked : List Desc) (items : List ImplIn) (n : ℕ) → asked ≡ map (λ x. only r.properties physical (desc_in env.descs x.desc)) (take n items) → items ≡ i.right.inputs → length items ≤ n → asked ≡ asked_of_inputs r physical i env
asked-all r physical i env asked items n is same all =
    let one : Symbol → Desc = λ d. only r.properties physical (desc_in env.descs d) in
    is ∙ (ap (map (λ (x : ImplIn). one x.desc)) (take_all n items all ∙ same) ∙ by-names one i.right.inputs)
