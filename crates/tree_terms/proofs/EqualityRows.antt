-- What is joined by small rule sets.
use Rattle.std.proofs.Common.{◌≡◌, ◌≢◌, ℕ, zero, suc, true, false, List, [], ◌∷◌, Option, Some, None, slice_get, refl, ap, sym, ◌∙◌, arith}
use Rattle.std.specs.Prelude.{codes, slice_set}
use Rattle.std.proofs.lemmas.List.Elements.{All-from_recursion}
use Rattle.action_eval.specs.Cost.{IStep}
use Rattle.action_eval.specs.Cost as form
use Rattle.catalog.specs.Contents.{Catalog}
use Rattle.derivation.specs.Joined.{Joined, query, part, rule, turn, chain, inside}
use Rattle.descriptor_types.specs.Descriptors.{Desc}
use Rattle.descriptor_types.specs.Labels.{Label, file, operator}
use Rattle.pr_value.specs.Symbols.{Symbol}
use Rattle.pr_value.specs.Trees.{Tree, tree, label, inputs, with_input, of_input}
use Rattle.pr_value.specs.declared.kind.Kind.TheVariants as kind
use Rattle.pr_value.specs.declared.value.Value.TheVariants as value
use Rattle.pr_value.proofs.TreeLaws.{tree_of_parts}
use Rattle.rule_ast.specs.Syntax.{LeftLabel, RightLabel, Operator, Body, TRule, IRule, Rules}
use Rattle.rule_ast.specs.Syntax as syntax
use Rattle.rule_ast.specs.declared.sides.AlgName.TheVariants as alg
use Rattle.tree_terms.specs.Equality as spec
use Rattle.tree_terms.specs.Equality.{Met, Equal, Spent, Full, IsHigher, LoopAt, enforces, is_counted, is_enforcing}
use Rattle.tree_terms.specs.Goals.{Goal, root, below, physical_in}
use Rattle.rule_trees.specs.Steps.{step}

-- ---- words

abbrev A : Symbol
A = codes "A"

abbrev B : Symbol
B = codes "B"

abbrev S : Symbol
S = codes "S"

abbrev D : Symbol
D = codes "D"

abbrev D1 : Symbol
D1 = codes "D1"

abbrev E : Symbol
E = codes "E"

abbrev nothing_said : Body
nothing_said = record { pre = []; test = syntax.truth true; post = [] }

-- o(?1 : D1) : D
abbrev over_one : Symbol → Tree LeftLabel
over_one o = tree (LeftLabel.operator o D) (tree (LeftLabel.stream 1 D1) [] ∷ [])

-- o(..) : E
abbrev makes : Symbol → Tree RightLabel → Tree RightLabel
makes o r = tree (RightLabel.operator o E) (r ∷ [])

abbrev stream_one : Tree RightLabel
stream_one = tree (RightLabel.stream 1) []

abbrev trule_of : Tree RightLabel → TRule
trule_of right = record { name = codes "t"; left = over_one A; right = right; body = nothing_said }

abbrev operator_of : Symbol → Operator
operator_of o = record { name = o; views = D1 ∷ []; own = D; init = [] }

-- the cost of the input passed on
abbrev costs : Body
costs = record { pre = []; test = syntax.truth true; post = syntax.set D (codes "cost") (syntax.read E (codes "cost")) ∷ [] }

abbrev irule_of : Symbol → IRule
irule_of o = record { name = codes "i"; left = over_one o; right = record { alg = alg.Null; inputs = record { number = 1; desc = E } ∷ []; desc = D }; body = costs }

abbrev rules_of : TRule → Rules
rules_of t = record {
  properties = record { name = codes "cost"; kind = kind.Cost } ∷ [];
  operators = operator_of A ∷ operator_of B ∷ operator_of S ∷ [];
  algorithms = [];
  helpers = [];
  trules = t ∷ [];
  irules = irule_of S ∷ [];
}

-- A(?1 : D1) : D => B(?1) : E
abbrev turning : Rules
turning = rules_of (trule_of (makes B stream_one))

-- A(?1 : D1) : D => A(A(?1) : E) : E
abbrev growing : Rules
growing = rules_of (trule_of (makes A (makes A stream_one)))

abbrev free : Catalog
free = record { files = None; tables = [] }

abbrev at_zero : Desc
at_zero = value.Num 0 ∷ []

abbrev f : Tree Label
f = tree (file (codes "f") at_zero) []

abbrev of : ℕ → Tree Label → Tree Label
of op t = tree (operator op at_zero) (t ∷ [])

-- ---- enforcers

third_enforces : enforces turning 2 ≡ true
third_enforces = refl

first_does_not : enforces turning 0 ≡ false
first_does_not = refl

undeclared_does_not : enforces turning 3 ≡ false
undeclared_does_not = refl

files_count : is_counted turning (label f) ≡ true
files_count = refl

enforcers_do_not : is_counted turning (label (of 2 f)) ≡ false
enforcers_do_not = refl

-- ---- what is joined

pub made_b : step turning free 0 (of 0 f) ≡ Some (of 1 f)
made_b = refl

not_of_b : step turning free 0 (of 1 f) ≡ None
not_of_b = refl

not_below : step turning free 0 (of 2 (of 0 f)) ≡ None
not_below = refl

part_is_met : Met turning free (of 0 f) 0 f
part_is_met = part 0 query refl

joined_at_one : spec.Joined turning free (of 0 f) 1 (of 0 f) (of 1 f)
joined_at_one = rule 0 query made_b

against_the_arrow : spec.Joined turning free (of 0 f) 1 (of 1 f) (of 0 f)
against_the_arrow = turn joined_at_one

-- below an enforcer
joined_below : spec.Joined turning free (of 2 (of 0 f)) 1 (of 2 (of 0 f)) (of 2 (of 1 f))
joined_below = inside 0 query refl (rule 0 (part 0 query refl) made_b)

-- without a use of a rule joined trees are the same
some_is : {X : Type 0} (x y : X) → Some x ≡ Some y → x ≡ y
some_is x y e = cc

set_same : {X : Type 0} (xs : List X) (i : ℕ) (x : X) → slice_get xs i ≡ Some x → slice_set xs i x ≡ xs
set_same [] i x e = refl
set_same (y ∷ xs) zero x e = ap (λ z. z ∷ xs) (sym (some_is y x e))
set_same (y ∷ xs) (suc i) x e = ap (λ zs. y ∷ zs) (set_same xs i x e)

at_depth_zero : {L : Type 0} (step : ℕ → Tree L → Option (Tree L)) (q : Tree L) {k : ℕ} {t u : Tree L} → k ≡ 0 → Joined step q k t u → t ≡ u
at_depth_zero step q none query = refl
at_depth_zero step q none (part i p e) = refl
at_depth_zero step q none (rule n p e) = absurd (omega (arith, none))
at_depth_zero step q none (turn p) = sym (at_depth_zero step q none p)
at_depth_zero step q none (chain p p') = at_depth_zero step q none p ∙ at_depth_zero step q none p'
at_depth_zero step q none (inside {k} {s} {t} {u} {v} i p e p') =
    sym (ap (λ w. with_input t i w) (sym (at_depth_zero step q none p')) ∙ (ap (λ xs. tree (label t) xs) (set_same (inputs t) i u e) ∙ tree_of_parts t))

operators_differ : of 0 f ≢ of 1 f
operators_differ e = let same : operator 0 at_zero ≡ operator 1 at_zero = ap label e in cc

-- ---- what stops the rounds

one_round_more : Spent turning free (of 0 f) 0
one_round_more = (of 0 f, of 1 f, joined_at_one, λ p. operators_differ (at_depth_zero (step turning free) (of 0 f) refl p))

-- the file alone counts
one_is_too_many : Full turning free (of 2 f) 0 0
one_is_too_many = (f ∷ [], refl, All-from_recursion (λ t. Met turning free (of 2 f) 0 t × (is_counted turning (label t) ≡ true)) (f ∷ []) ((part 0 query refl, refl), tt), λ i j d h l. absurd (omega (arith, h, l)))

higher_than_one : IsHigher turning free (of 0 f) 1
higher_than_one = (of 0 f, (0, query), omega arith)

grown : step growing free 0 (of 0 f) ≡ Some (of 0 (of 0 f))
grown = refl

loops : LoopAt growing free (of 0 f) 0
loops = (of 0 (of 0 f), of 0 f, (1, turn (rule 0 query grown)), of_input (0, omega arith, refl), (at_zero, refl))

-- ---- goals

costs_nothing_else : physical_in turning at_zero ≡ at_zero
costs_nothing_else = refl

-- nothing is asked of the input of an enforcer of no property
abbrev asked_of_s : IStep
asked_of_s = record { asked = at_zero ∷ []; before = at_zero; cost = form.input 0 }

goal_below : Goal turning free (of 2 f) f at_zero
goal_below = below 0 0 asked_of_s root (0, query) refl refl refl
