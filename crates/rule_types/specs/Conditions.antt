-- When a rule set is refused: in which declaration each condition holds, and the first that does.
use Rattle.std.specs.Prelude.{ℕ, Bool, true, false, not, ◌&&◌, ◌||◌, ◌==◌, nat_lt, nat_le, List, [], ◌∷◌, ◌++◌, length, map, codes, Option, Some, None, option_map, if◌then◌else◌}
use Rattle.std.specs.List.{list_any, list_all, find}
use Rattle.std.specs.Option.{option_or}
use Rattle.std.specs.Str.{bytes_eq}
use Rattle.pr_value.specs.Repeats.{are_distinct}
use Rattle.pr_value.specs.Symbols.{Symbol}
use Rattle.pr_value.specs.SymbolSets.{contains}
use Rattle.pr_value.specs.declared.kind.Kind.TheVariants as kinds
use Rattle.pr_value.specs.declared.property.Property.{Property}
use Rattle.rule_ast.specs.declared.parts.Algorithm.{Algorithm}
use Rattle.rule_ast.specs.declared.sides.AlgName.{AlgName}
use Rattle.rule_ast.specs.declared.sides.AlgName.TheVariants as alg
use Rattle.rule_ast.specs.declared.sides.ImplSide.{ImplSide}
use Rattle.rule_ast.specs.CostForms.{is_cost}
use Rattle.rule_ast.specs.Descs.{stream_numbers}
use Rattle.rule_ast.specs.Syntax.{LeftLabel, RightLabel, Operator, Helper, TRule, IRule, Rules}
use Rattle.rule_ast.specs.Typing.{Context, Signature, builtins, is_builtin, helper_signature, signatures_of, params_context, type_of_kind, type_of, is_type, is_typed_body, is_typed_stmt}
use Rattle.rule_types.specs.Declarations.{Placed, Declaration, property, operator, algorithm, helper, trule, irule, declarations, declared_name, descs_of, params_of, helpers_of}
use Rattle.rule_types.specs.LaterConditions.{copy_place, assign_target, input_in_post, cost_assigned, cost_missing, cost_read, cost_form, null_form, enforcer_left, enforcer_root, physical_in_trule, input_not_physical}
use Rattle.rule_types.specs.Uses.{variable, reading, calling, folding, assigning, copying, Question, uses, any_node, nodes, counts_left, counts_right}
use Rattle.rule_types.specs.declared.refusal.Refused.{Refused}
use Rattle.rule_types.specs.declared.refusal.RefusalKind.{RefusalKind}
use Rattle.rule_types.specs.declared.refusal.RefusalKind.TheVariants as kind

-- ---- TooMany

abbrev pub most_properties : ℕ
most_properties = 64

abbrev pub most_declared : ℕ
most_declared = 255

-- as many stand before it as there may be
abbrev pub is_past : {A : Type 0} → ℕ → Placed A → Bool
is_past most p = nat_le most (length p.before)

abbrev pub too_many : Declaration → Bool
too_many (property p) = is_past most_properties p
too_many (operator o) = is_past most_declared o
too_many (algorithm a) = is_past most_declared a
too_many (helper h) = is_past most_declared h
too_many (trule t) = is_past most_declared t
too_many (irule i) = is_past most_declared i

-- ---- TwoNames

abbrev pub property_names : List Property → List Symbol
property_names = map (λ p. p.name)

abbrev pub operator_names : List Operator → List Symbol
operator_names = map (λ o. o.name)

abbrev pub algorithm_names : List Algorithm → List Symbol
algorithm_names = map (λ a. a.name)

abbrev pub helper_names : List Helper → List Symbol
helper_names = map (λ h. h.name)

abbrev pub trule_names : List TRule → List Symbol
trule_names = map (λ t. t.name)

abbrev pub irule_names : List IRule → List Symbol
irule_names = map (λ i. i.name)

-- the names of its group that stand before it
abbrev pub earlier_names : Rules → Declaration → List Symbol
earlier_names r (property p) = property_names p.before
earlier_names r (operator o) = operator_names o.before
earlier_names r (algorithm a) = operator_names r.operators ++ algorithm_names a.before
earlier_names r (helper h) = helper_names h.before
earlier_names r (trule t) = trule_names t.before
earlier_names r (irule i) = trule_names r.trules ++ irule_names i.before

-- a helper that has a built-in function's name
abbrev pub has_builtin_name : Declaration → Bool
has_builtin_name (helper h) = is_builtin h.this.name
has_builtin_name _ = false

-- the names of its scope, outside of all folds
abbrev pub scope_names : Declaration → List Symbol
scope_names d = descs_of d ++ params_of d

-- a fold gives members a name that may be used where the fold stands
abbrev pub is_taken : List Symbol → Question
is_taken names folds (folding x) = contains folds x || contains names x
is_taken names folds _ = false

abbrev pub two_names : Rules → Declaration → Bool
two_names r d =
    has_builtin_name d || contains (earlier_names r d) (declared_name d) ||
    not (are_distinct (scope_names d)) || uses (is_taken (scope_names d)) d

-- ---- NoCost and TwoCosts

abbrev pub has_cost : List Property → Bool
has_cost = list_any (λ p. is_cost p.kind)

abbrev pub two_costs : Declaration → Bool
two_costs (property p) = is_cost p.this.kind && has_cost p.before
two_costs _ = false

-- ---- UnknownName

abbrev pub is_unknown_function : List Helper → Symbol → Bool
is_unknown_function helpers f = not (is_builtin f) && not (contains (helper_names helpers) f)

-- a use of what is none of these properties, helpers, descriptors and parameters
abbrev pub is_unknown_use : List Property → List Helper → List Symbol → List Symbol → Question
is_unknown_use ps hs ds vs folds (variable x) = not (contains folds x) && not (contains vs x)
is_unknown_use ps hs ds vs folds (reading d p) =
    not (contains ds d) || not (contains (property_names ps) p)
is_unknown_use ps hs ds vs folds (calling f n) = is_unknown_function hs f
is_unknown_use ps hs ds vs folds (folding x) = false
is_unknown_use ps hs ds vs folds (assigning d p) =
    not (contains ds d) || not (contains (property_names ps) p)
is_unknown_use ps hs ds vs folds (copying d e) = not (contains ds d) || not (contains ds e)

abbrev pub is_unknown_left : Rules → LeftLabel → ℕ → Bool
is_unknown_left r (LeftLabel.operator o d) n = not (contains (operator_names r.operators) o)
is_unknown_left r (LeftLabel.stream s d) n = false

abbrev pub has_number : List ℕ → ℕ → Bool
has_number numbers n = list_any (λ m. n == m) numbers

-- an operator, or a stream that is none of these
abbrev pub is_unknown_right : Rules → List ℕ → RightLabel → ℕ → Bool
is_unknown_right r numbers (RightLabel.operator o d) n =
    not (contains (operator_names r.operators) o)
is_unknown_right r numbers (RightLabel.stream s) n = not (has_number numbers s)

abbrev pub is_unknown_algorithm : Rules → AlgName → Bool
is_unknown_algorithm r (alg.Named a) = not (contains (algorithm_names r.algorithms) a)
is_unknown_algorithm r alg.Null = false

abbrev pub is_unknown_impl : Rules → List ℕ → ImplSide → Bool
is_unknown_impl r numbers s =
    is_unknown_algorithm r s.alg || list_any (λ i. not (has_number numbers i.number)) s.inputs

abbrev pub unknown_in_trule : Rules → TRule → Bool
unknown_in_trule r t =
    any_node (is_unknown_left r) t.left || any_node (is_unknown_right r (stream_numbers t.left)) t.right

abbrev pub unknown_in_irule : Rules → IRule → Bool
unknown_in_irule r i =
    any_node (is_unknown_left r) i.left || is_unknown_impl r (stream_numbers i.left) i.right

abbrev pub unknown_in_sides : Rules → Declaration → Bool
unknown_in_sides r (trule t) = unknown_in_trule r t.this
unknown_in_sides r (irule i) = unknown_in_irule r i.this
unknown_in_sides r _ = false

abbrev pub unknown_in_uses : Rules → Declaration → Bool
unknown_in_uses r d =
    uses (is_unknown_use r.properties (helpers_of r d) (descs_of d) (params_of d)) d

abbrev pub unknown_name : Rules → Declaration → Bool
unknown_name r d = unknown_in_sides r d || unknown_in_uses r d

-- ---- WrongArity

-- from 1 to 4 inputs
abbrev pub is_arity : ℕ → Bool
is_arity n = nat_lt 0 n && nat_le n 4

abbrev pub takes : List Operator → Symbol → ℕ → Bool
takes operators o n = list_any (λ p. bytes_eq p.name o && length p.views == n) operators

abbrev pub wrong_left : Rules → LeftLabel → ℕ → Bool
wrong_left r (LeftLabel.operator o d) n = not (takes r.operators o n)
wrong_left r (LeftLabel.stream s d) n = false

abbrev pub wrong_right : Rules → RightLabel → ℕ → Bool
wrong_right r (RightLabel.operator o d) n = not (takes r.operators o n)
wrong_right r (RightLabel.stream s) n = false

abbrev pub algorithm_takes : List Algorithm → AlgName → ℕ → Bool
algorithm_takes algorithms (alg.Named a) n = list_any (λ b. bytes_eq b.name a && b.arity == n) algorithms
algorithm_takes algorithms alg.Null n = n == 1

abbrev pub has_signature : List Signature → Symbol → ℕ → Bool
has_signature signatures f n = list_any (λ s. bytes_eq s.name f && length s.params == n) signatures

-- the call gives a function another number of arguments than it takes
abbrev pub wrong_call : List Helper → Question
wrong_call helpers folds (calling f n) =
    not (has_signature (if is_builtin f then builtins else map helper_signature helpers) f n)
wrong_call helpers folds _ = false

abbrev pub wrong_in_trule : Rules → TRule → Bool
wrong_in_trule r t = any_node (wrong_left r) t.left || any_node (wrong_right r) t.right

abbrev pub wrong_in_irule : Rules → IRule → Bool
wrong_in_irule r i =
    any_node (wrong_left r) i.left ||
    not (algorithm_takes r.algorithms i.right.alg (length i.right.inputs))

abbrev pub wrong_in_parts : Rules → Declaration → Bool
wrong_in_parts r (operator o) = not (is_arity (length o.this.views))
wrong_in_parts r (algorithm a) = not (is_arity a.this.arity)
wrong_in_parts r (trule t) = wrong_in_trule r t.this
wrong_in_parts r (irule i) = wrong_in_irule r i.this
wrong_in_parts r _ = false

abbrev pub wrong_arity : Rules → Declaration → Bool
wrong_arity r d = wrong_in_parts r d || uses (wrong_call (helpers_of r d)) d

-- ---- HelperCost

abbrev pub helper_cost : Declaration → Bool
helper_cost (helper h) = is_cost h.this.result || list_any (λ p. is_cost p.kind) h.this.params
helper_cost _ = false

-- ---- WrongType

-- what the expressions of a declaration may use
abbrev pub context_of : Declaration → Context
context_of (helper h) = params_context h.this.params
context_of d = record { descs = descs_of d; vars = [] }

abbrev pub is_typed : List Property → List Signature → Context → Declaration → Bool
is_typed ps hs c (operator o) = list_all (is_typed_stmt ps hs c) o.this.init
is_typed ps hs c (helper h) = is_type (type_of_kind h.this.result) (type_of ps hs c h.this.body)
is_typed ps hs c (trule t) = is_typed_body ps hs c t.this.body
is_typed ps hs c (irule i) = is_typed_body ps hs c i.this.body
is_typed ps hs c _ = true

abbrev pub wrong_type : Rules → Declaration → Bool
wrong_type r d = not (is_typed r.properties (signatures_of (helpers_of r d)) (context_of d) d)

-- ---- LeftStreamTwice and StreamOrder

abbrev pub are_numbers_distinct : List ℕ → Bool
are_numbers_distinct [] = true
are_numbers_distinct (n ∷ ns) = not (has_number ns n) && are_numbers_distinct ns

abbrev pub left_stream_twice : Declaration → Bool
left_stream_twice (trule t) = not (are_numbers_distinct (stream_numbers t.this.left))
left_stream_twice (irule i) = not (are_numbers_distinct (stream_numbers i.this.left))
left_stream_twice _ = false

abbrev pub same_numbers : List ℕ → List ℕ → Bool
same_numbers [] [] = true
same_numbers (m ∷ ms) (n ∷ ns) = m == n && same_numbers ms ns
same_numbers _ _ = false

abbrev pub stream_order : Declaration → Bool
stream_order (irule i) = not (same_numbers (map (λ s. s.number) i.this.right.inputs) (stream_numbers i.this.left))
stream_order _ = false

-- ---- TooManyNodes and LeftNotFlat

abbrev pub most_nodes : ℕ
most_nodes = 8

abbrev pub too_many_nodes : Declaration → Bool
too_many_nodes (trule t) =
    nat_lt most_nodes (nodes counts_left t.this.left) ||
    nat_lt most_nodes (nodes counts_right t.this.right)
too_many_nodes (irule i) = nat_lt most_nodes (nodes counts_left i.this.left)
too_many_nodes _ = false

abbrev pub left_not_flat : Declaration → Bool
left_not_flat (irule i) = nat_lt 1 (nodes counts_left i.this.left)
left_not_flat _ = false

-- ---- the first condition that holds

-- the condition holds in this declaration
abbrev pub holds : RefusalKind → Rules → Declaration → Bool
holds kind.TooMany r d = too_many d
holds kind.TwoNames r d = two_names r d
holds kind.NoCost r d = false
holds kind.TwoCosts r d = two_costs d
holds kind.UnknownName r d = unknown_name r d
holds kind.WrongArity r d = wrong_arity r d
holds kind.HelperCost r d = helper_cost d
holds kind.WrongType r d = wrong_type r d
holds kind.LeftStreamTwice r d = left_stream_twice d
holds kind.StreamOrder r d = stream_order d
holds kind.TooManyNodes r d = too_many_nodes d
holds kind.LeftNotFlat r d = left_not_flat d
holds kind.CopyPlace r d = copy_place d
holds kind.AssignTarget r d = assign_target d
holds kind.InputInPost r d = input_in_post d
holds kind.CostAssigned r d = cost_assigned r d
holds kind.CostMissing r d = cost_missing r d
holds kind.CostRead r d = cost_read r d
holds kind.CostForm r d = cost_form r d
holds kind.NullForm r d = null_form r d
holds kind.EnforcerLeft r d = enforcer_left r d
holds kind.EnforcerRoot r d = enforcer_root r d
holds kind.PhysicalInTRule r d = physical_in_trule r d
holds kind.InputNotPhysical r d = input_not_physical r d

-- the name of the first declaration in which the condition holds
abbrev pub first_name : RefusalKind → Rules → Option Symbol
first_name k r = option_map declared_name (find (holds k r) (declarations r))

-- the name that is told where the condition holds: `-` where no declaration is at fault
abbrev pub named_by : RefusalKind → Rules → Option Symbol
named_by kind.NoCost r = if has_cost r.properties then None else Some (codes "-")
named_by k r = first_name k r

-- the conditions, in the order in which they are asked
abbrev pub conditions : List RefusalKind
conditions =
    kind.TooMany ∷ kind.TwoNames ∷ kind.NoCost ∷ kind.TwoCosts ∷ kind.UnknownName ∷ kind.WrongArity ∷
    kind.HelperCost ∷ kind.WrongType ∷ kind.LeftStreamTwice ∷ kind.StreamOrder ∷ kind.TooManyNodes ∷
    kind.LeftNotFlat ∷ kind.CopyPlace ∷ kind.AssignTarget ∷ kind.InputInPost ∷ kind.CostAssigned ∷
    kind.CostMissing ∷ kind.CostRead ∷ kind.CostForm ∷ kind.NullForm ∷ kind.EnforcerLeft ∷
    kind.EnforcerRoot ∷ kind.PhysicalInTRule ∷ kind.InputNotPhysical ∷ []

abbrev pub refused : RefusalKind → Symbol → Refused
refused k s = record { kind = k; name = s }

-- the first of these conditions that holds, with the name that is told
abbrev pub first_refused : List RefusalKind → Rules → Option Refused
first_refused [] r = None
first_refused (k ∷ ks) r = option_or (option_map (refused k) (named_by k r)) (first_refused ks r)

-- why the rule set is refused, unless it is accepted
abbrev pub refused_by : Rules → Option Refused
refused_by = first_refused conditions
