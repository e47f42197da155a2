-- What is known of the rules of an accepted rule set.
use Rattle.std.proofs.Common.{◌≡◌, ℕ, zero, suc, ◌<◌, Bool, true, false, not, List, [], ◌∷◌, ◌++◌, length, map, get_or, Option, Some, None, refl, ap, sym, ◌∙◌, subst, arith}
use Rattle.std.specs.Cmp.{first_so, second_so}
use Rattle.std.specs.List.{Contains, list_all}
use Rattle.std.specs.Prelude.{◌&&◌, slice_get}
use Rattle.std.specs.Cmp.Derive.{both_true}
use Rattle.std.specs.Str.{bytes_eq}
use Rattle.std.proofs.lemmas.Bool.{false≢true, not-true}
use Rattle.std.proofs.lemmas.List.{length-map}
use Rattle.std.proofs.lemmas.List.Folds.{list_any-append}
use Rattle.action_eval.proofs.PlainLaws.{or_first}
use Rattle.pr_value.specs.SymbolSets.{contains}
use Rattle.rule_runs.specs.Conditions.{CanImplement, CanRun, GivesCost}
use Rattle.rule_trees.proofs.NumberLaws.{numbers-long}
use Rattle.pr_value.specs.Repeats.{are_distinct}
use Rattle.pr_value.specs.Symbols.{Symbol}
use Rattle.rule_ast.specs.CostForms.{cost_name, is_cost_form, reads_cost_of}
use Rattle.rule_ast.specs.CostGiven.{cost_of}
use Rattle.rule_ast.specs.Descs.{impl_descs, left_descs, names_of, stream_numbers, trule_descs, irule_descs}
use Rattle.rule_ast.specs.Syntax.{Expr, TRule, IRule, Rules}
use Rattle.rule_ast.specs.Typing.{Context, signatures_of, type_of, is_type, is_typed_body}
use Rattle.pr_value.specs.declared.kind.Kind.TheVariants as kind
use Rattle.rule_types.proofs.AcceptedArities.{accepted-arities, accepted-known}
use Rattle.rule_types.proofs.AcceptedCosts.{accepted-assigned, accepted-costs}
use Rattle.rule_types.proofs.AcceptedNames.{accepted-descs, accepted-names}
use Rattle.rule_types.proofs.AcceptedSides.{accepted-sides}
use Rattle.rule_types.proofs.AcceptedTypes.{accepted-types}
use Rattle.rule_types.specs.AcceptedLaws.{is_sound_irule}
use Rattle.rule_types.specs.Conditions.{operator_names, refused_by, same_numbers, unknown_in_trule, wrong_in_trule}
use Rattle.rule_types.specs.LaterConditions.{assigns_cost, holds_of}
use Rattle.rule_types.specs.Uses.{any_use_of}

-- ---- what is asked of a rule

abbrev pub is_sound_cost : Rules → IRule → Expr → Bool
is_sound_cost r i e = is_cost_form (cost_name r.properties) e && reads_cost_of (cost_name r.properties) (names_of i.right.inputs) e

abbrev pub over_names : List Symbol → Context
over_names names = record { descs = names; vars = [] }

abbrev pub is_typed_trule : Rules → TRule → Bool
is_typed_trule r t = is_typed_body r.properties (signatures_of r.helpers) (over_names (trule_descs t)) t.body

abbrev pub is_typed_irule : Rules → IRule → Bool
is_typed_irule r i = is_typed_body r.properties (signatures_of r.helpers) (over_names (irule_descs i)) i.body

abbrev pub is_number : Rules → IRule → Expr → Bool
is_number r i e = is_type kind.Num (type_of r.properties (signatures_of r.helpers) (over_names (irule_descs i)) e)

-- ---- of one rule

pub accepted-operators : (r : Rules) → refused_by r ≡ None → are_distinct (operator_names r.operators) ≡ true
accepted-operators r accepted = (accepted-names r accepted).operators

pub passes-Contains : {X : Type 0} (p : X → Bool) (xs : List X) (x : X) → list_all p xs ≡ true → Contains xs x → p x ≡ true
passes-Contains p [] x all (k, within, is) = absurd (omega (arith, within))
passes-Contains p (y ∷ ys) x all (zero, within, is) = subst (λ z. p z ≡ true) is (first_so _ _ all)
passes-Contains p (y ∷ ys) x all (suc k, within, is) = passes-Contains p ys x (second_so _ _ all) (k, omega (arith, within), is)

-- what stands at a place
pub contains-map : {X Y : Type 0} (f : X → Y) (xs : List X) (i : ℕ) (x : X) → i < length xs → x ≡ get_or xs i x → Contains (map f xs) (f x)
contains-map f [] i x within is = absurd (omega (arith, within))
contains-map f (y ∷ ys) zero x within is = (zero, omega arith, ap f (sym is))
contains-map f (y ∷ ys) (suc i) x within is = let rest = contains-map f ys i x (omega (arith, within)) is in (suc rest.0, omega (arith, rest.1), rest.2)

pub slice_get-map : {X Y : Type 0} (f : X → Y) (xs : List X) (i : ℕ) (x : X) → i < length xs → x ≡ get_or xs i x → slice_get (map f xs) i ≡ Some (f x)
slice_get-map f [] i x within is = absurd (omega (arith, within))
slice_get-map f (y ∷ ys) zero x within is = ap (λ z. Some (f z)) (sym is)
slice_get-map f (y ∷ ys) (suc i) x within is = slice_get-map f ys i x (omega (arith, within)) is

pub record IsTRule (r : Rules) (t : TRule) : Type 0 where
  pub distinct : are_distinct (trule_descs t) ≡ true
  pub typed : is_typed_trule r t ≡ true
  pub arities : wrong_in_trule r t ≡ false
  pub known : unknown_in_trule r t ≡ false
  pub free : any_use_of (assigns_cost (cost_name r.properties)) t.body ≡ false

pub trule_facts : (r : Rules) → refused_by r ≡ None → (t : TRule) → Contains r.trules t → IsTRule r t
trule_facts r accepted t there = record {
  distinct = passes-Contains (λ (u : TRule). are_distinct (trule_descs u)) r.trules t (accepted-descs r accepted).trules there;
  typed = passes-Contains (is_typed_trule r) r.trules t (accepted-types r accepted).trules there;
  arities = not-true _ (passes-Contains (λ (u : TRule). not (wrong_in_trule r u)) r.trules t (accepted-arities r accepted).trules there);
  known = not-true _ (passes-Contains (λ (u : TRule). not (unknown_in_trule r u)) r.trules t (accepted-known r accepted).trules there);
  free = not-true _ (passes-Contains (λ (u : TRule). not (any_use_of (assigns_cost (cost_name r.properties)) u.body)) r.trules t (accepted-assigned r accepted).trules there);
}

pub record IsIRule (r : Rules) (i : IRule) : Type 0 where
  pub distinct : are_distinct (irule_descs i) ≡ true
  pub typed : is_typed_irule r i ≡ true
  pub ordered : same_numbers (map (λ s. s.number) i.right.inputs) (stream_numbers i.left) ≡ true
  pub cost : holds_of (is_sound_cost r i) (cost_of (cost_name r.properties) i) ≡ true
  pub number : holds_of (is_number r i) (cost_of (cost_name r.properties) i) ≡ true

pub irule_facts : (r : Rules) → refused_by r ≡ None → (i : IRule) → Contains r.irules i → IsIRule r i
irule_facts r accepted i there = record {
  distinct = passes-Contains (λ (u : IRule). are_distinct (irule_descs u)) r.irules i (accepted-descs r accepted).irules there;
  typed = passes-Contains (is_typed_irule r) r.irules i (accepted-types r accepted).irules there;
  ordered = second_so _ _ (passes-Contains is_sound_irule r.irules i (accepted-sides r accepted).irules there);
  cost = passes-Contains (λ (u : IRule). holds_of (is_sound_cost r u) (cost_of (cost_name r.properties) u)) r.irules i (accepted-costs r accepted).forms there;
  number = passes-Contains (λ (u : IRule). holds_of (is_number r u) (cost_of (cost_name r.properties) u)) r.irules i (accepted-costs r accepted).numbers there;
}

-- ---- a rule of an accepted rule set runs

pub trule-CanRun : (r : Rules) → refused_by r ≡ None → (t : TRule) → Contains r.trules t → CanRun r t
trule-CanRun r accepted t there = let f = trule_facts r accepted t there in record { helpers = (accepted-types r accepted).helpers; different = f.distinct; typed = f.typed }

same-long : (ms ns : List ℕ) → same_numbers ms ns ≡ true → length ms ≡ length ns
same-long [] [] e = refl
same-long [] (n ∷ ns) e = absurd (false≢true e)
same-long (m ∷ ms) [] e = absurd (false≢true e)
same-long (m ∷ ms) (n ∷ ns) e = ap suc (same-long ms ns (second_so _ _ e))

distinct-right : (ss ts : List Symbol) → are_distinct (ss ++ ts) ≡ true → are_distinct ts ≡ true
distinct-right [] ts e = e
distinct-right (s ∷ ss) ts e = distinct-right ss ts (second_so _ _ e)

not-there : (a b : Bool) → (not a && b) ≡ true → a ≡ false
not-there true b e = absurd (false≢true e)
not-there false b e = refl

distinct-left : (ss ts : List Symbol) → are_distinct (ss ++ ts) ≡ true → are_distinct ss ≡ true
distinct-left [] ts e = refl
distinct-left (s ∷ ss) ts e =
    let none : contains (ss ++ ts) s ≡ false = not-there _ _ e in
    let left : contains ss s ≡ false = or_first (contains ss s) (contains ts s) (sym (list_any-append (bytes_eq s) ss ts) ∙ none) in
    both_true (ap not left) (distinct-left ss ts (second_so _ _ e))

-- the expression that gives a cost
cost-given : (r : Rules) (i : IRule) (o : Option Expr) → cost_of (cost_name r.properties) i ≡ o → holds_of (is_sound_cost r i) o ≡ true → holds_of (is_number r i) o ≡ true → GivesCost r i
cost-given r i None given sound counted = absurd (false≢true sound)
cost-given r i (Some e) given sound counted = record { cost = e; given = given; number = counted; form = first_so _ _ sound; of_inputs = second_so _ _ sound }

pub irule-CanImplement : (r : Rules) → refused_by r ≡ None → (i : IRule) → Contains r.irules i → CanImplement r i
irule-CanImplement r accepted i there =
    let f = irule_facts r accepted i there in
    let a = length-map i.right.inputs (λ s. s.number) in
    let b = same-long (map (λ s. s.number) i.right.inputs) (stream_numbers i.left) f.ordered in
    let c = numbers-long i.left in
    record {
      typed = record { helpers = (accepted-types r accepted).helpers; different = f.distinct; typed = f.typed };
      as_many = omega (arith, a, b, c);
      inputs = distinct-left (names_of i.right.inputs) (i.right.desc ∷ []) (distinct-right (left_descs i.left) (impl_descs i.right) f.distinct);
      cost = cost-given r i (cost_of (cost_name r.properties) i) refl f.cost f.number;
    }
