-- The costs of an accepted rule set.
use Rattle.std.proofs.Common.{◌≡◌, ℕ, suc, Bool, true, false, cond, not, ◌&&◌, ◌||◌, List, [], ◌∷◌, ◌++◌, length, Option, Some, None, is_some, refl, ap, ◌∙◌}
use Rattle.std.proofs.lemmas.Bool.{and_from, not-false, or_parts}
use Rattle.std.proofs.lemmas.List.Folds.{list_any-append}
use Rattle.std.specs.List.{list_all, list_any}
use Rattle.pr_value.specs.Symbols.{Symbol}
use Rattle.pr_value.specs.declared.kind.Kind.TheVariants as kind
use Rattle.pr_value.specs.declared.property.Property.{Property}
use Rattle.rule_ast.specs.CostForms.{cost_name, is_cost, is_cost_form, reads_cost_of}
use Rattle.rule_ast.specs.CostGiven.{cost_of}
use Rattle.rule_ast.specs.Descs.{names_of}
use Rattle.rule_ast.specs.Syntax.{Expr, IRule, Rules}
use Rattle.rule_ast.specs.Typing.{property_kind}
use Rattle.rule_types.specs.AcceptedLaws.{AssignsCostsLast, GivesCosts, HasNoCopies, HasOneCost, ReadsCostsLast, costs_of, gives_cost, gives_number, is_sound_cost, is_typed_irule, no_use_in, no_use_of}
use Rattle.rule_types.specs.Conditions.{has_cost, refused_by, two_costs, wrong_type}
use Rattle.rule_types.specs.Declarations.{Placed, Declaration, irule, declarations, placed, placed_behind}
use Rattle.rule_types.specs.LaterConditions.{assigns_cost, copy_place, cost_assigned, cost_form, cost_missing, cost_read, holds_of, is_copy, is_cost_read, lacks_form, reads_another, without_cost}
use Rattle.rule_types.specs.Uses.{any_use_of}
use Rattle.rule_types.proofs.DeclarationLaws.{at, each_irule, each_operator, each_trule, in_properties, list_any-either}
use Rattle.rule_types.proofs.AcceptedNames.{accepted-names}
use Rattle.rule_types.proofs.CostNameLaws.{cost_declared, only_cost}
use Rattle.rule_types.proofs.CostTypeLaws.{cost_typed}
use Rattle.rule_types.proofs.RefusalLaws.{has_a_cost, nowhere-copy_place, nowhere-cost_assigned, nowhere-cost_form, nowhere-cost_missing, nowhere-cost_read, nowhere-two_costs, nowhere-wrong_type}

-- ---- one cost

-- a cost among these behind another
abbrev is_another : Placed Property → Bool
is_another p = is_cost p.this.kind && has_cost p.before

same_both : (n : ℕ) (b : Bool) → n ≡ cond b n n
same_both n true = refl
same_both n false = refl

-- one property more: whether it is a cost, whether one stands before it, and whether one comes behind it
one_more : (p : Property) (rest : List Property) (c b s : Bool) → (c && b) ≡ false → length rest ≡ cond (b || (c || false)) 0 (cond s 1 0) → length (cond c (p ∷ rest) rest) ≡ cond b 0 (cond (c || s) 1 0)
one_more p rest true true s e h = absurd (cc e)
one_more p rest true false s e h = ap suc h
one_more p rest false true s e h = h
one_more p rest false false s e h = h

count_costs : (before ps : List Property) → list_any is_another (placed_behind before ps) ≡ false → length (costs_of ps) ≡ cond (has_cost before) 0 (cond (has_cost ps) 1 0)
count_costs before [] h = same_both 0 (has_cost before)
count_costs before (p ∷ ps) h =
    let parts = or_parts (is_another (at before p)) (list_any is_another (placed_behind (before ++ p ∷ []) ps)) h in
    one_more p (costs_of ps) (is_cost p.kind) (has_cost before) (has_cost ps) parts.0
    (count_costs (before ++ p ∷ []) ps parts.1
    ∙ ap (λ b. cond b 0 (cond (has_cost ps) 1 0)) (list_any-append (λ q. is_cost q.kind) before (p ∷ [])))

counted_once : (ps : List Property) → has_cost ps ≡ true → list_any is_another (placed ps) ≡ false → length (costs_of ps) ≡ 1
counted_once ps has h = count_costs [] ps h ∙ ap (λ b. cond b 1 0) has

pub accepted-one_cost : (r : Rules) → refused_by r ≡ None → HasOneCost r
accepted-one_cost r accepted =
    let has = has_a_cost r accepted in
    let one = counted_once r.properties has (in_properties two_costs r (nowhere-two_costs r accepted)) in
    record {
      one = one;
      declared = cost_declared r.properties (accepted-names r accepted).properties has;
      only = λ name is. only_cost r.properties name one is;
    }

-- ---- the forms of costs

sound-from : (cost : Symbol) (i : IRule) (o : Option Expr) → not (is_some o) ≡ false → holds_of (lacks_form cost) o ≡ false → holds_of (reads_another cost i.right.inputs) o ≡ false → holds_of (is_sound_cost cost i) o ≡ true
sound-from cost i None missing form reads = absurd (cc missing)
sound-from cost i (Some e) missing form reads =
    and_from (is_cost_form cost e) (reads_cost_of cost (names_of i.right.inputs) e)
    (not-false (is_cost_form cost e) form) (not-false (reads_cost_of cost (names_of i.right.inputs) e) reads)

abbrev bad_cost : Rules → Declaration → Bool
bad_cost r d = cost_missing r d || (cost_form r d || cost_read r d)

sound_costs : (r : Rules) (before : List IRule) (i : IRule) → bad_cost r (irule (at before i)) ≡ false → gives_cost (cost_name r.properties) i ≡ true
sound_costs r before i e =
    let d = irule (at before i) in
    let cost = cost_name r.properties in
    let p = or_parts (cost_missing r d) (cost_form r d || cost_read r d) e in
    let q = or_parts (cost_form r d) (cost_read r d) p.1 in
    let reads = or_parts (any_use_of (is_cost_read cost) (without_cost cost i)) (holds_of (reads_another cost i.right.inputs) (cost_of cost i)) q.1 in
    sound-from cost i (cost_of cost i) p.0 q.0 reads.1

accepted-forms : (r : Rules) → refused_by r ≡ None → list_all (gives_cost (cost_name r.properties)) r.irules ≡ true
accepted-forms r accepted =
    let all = declarations r in
    let none : list_any (bad_cost r) all ≡ false =
    list_any-either (cost_missing r) (λ d. cost_form r d || cost_read r d) all (nowhere-cost_missing r accepted)
    (list_any-either (cost_form r) (cost_read r) all (nowhere-cost_form r accepted) (nowhere-cost_read r accepted)) in
    each_irule (bad_cost r) r none (gives_cost (cost_name r.properties)) (sound_costs r)

abbrev bad_number : Rules → Declaration → Bool
bad_number r d = cost_missing r d || wrong_type r d

typed_costs : (r : Rules) → property_kind r.properties (cost_name r.properties) ≡ Some kind.Cost → (before : List IRule) (i : IRule) → bad_number r (irule (at before i)) ≡ false → gives_number r i ≡ true
typed_costs r declared before i e =
    let d = irule (at before i) in
    let p = or_parts (cost_missing r d) (wrong_type r d) e in
    cost_typed r i declared (not-false (is_typed_irule r i) p.1) p.0

pub accepted-costs : (r : Rules) → refused_by r ≡ None → GivesCosts r
accepted-costs r accepted =
    let none : list_any (bad_number r) (declarations r) ≡ false =
    list_any-either (cost_missing r) (wrong_type r) (declarations r) (nowhere-cost_missing r accepted) (nowhere-wrong_type r accepted) in
    record {
      forms = accepted-forms r accepted;
      numbers = each_irule (bad_number r) r none (gives_number r) (typed_costs r (accepted-one_cost r accepted).declared);
    }

-- ---- where costs stand

pub accepted-assigned : (r : Rules) → refused_by r ≡ None → AssignsCostsLast r
accepted-assigned r accepted =
    let none : list_any (cost_assigned r) (declarations r) ≡ false = nowhere-cost_assigned r accepted in
    let cost = cost_name r.properties in
    record {
      inits = each_operator (cost_assigned r) r none (λ o. no_use_in (assigns_cost cost) o.init) (λ before o e. ap not e);
      trules = each_trule (cost_assigned r) r none (λ t. no_use_of (assigns_cost cost) t.body) (λ before t e. ap not e);
      irules = each_irule (cost_assigned r) r none (λ i. no_use_of (assigns_cost cost) (without_cost cost i)) (λ before i e. ap not e);
    }

pub accepted-read : (r : Rules) → refused_by r ≡ None → ReadsCostsLast r
accepted-read r accepted =
    let none : list_any (cost_read r) (declarations r) ≡ false = nowhere-cost_read r accepted in
    let cost = cost_name r.properties in
    record {
      inits = each_operator (cost_read r) r none (λ o. no_use_in (is_cost_read cost) o.init) (λ before o e. ap not e);
      trules = each_trule (cost_read r) r none (λ t. no_use_of (is_cost_read cost) t.body) (λ before t e. ap not e);
      irules = each_irule (cost_read r) r none (λ i. no_use_of (is_cost_read cost) (without_cost cost i))
          (λ before i e. ap not (or_parts (any_use_of (is_cost_read cost) (without_cost cost i)) (holds_of (reads_another cost i.right.inputs) (cost_of cost i)) e).0);
    }

pub accepted-copies : (r : Rules) → refused_by r ≡ None → HasNoCopies r
accepted-copies r accepted = each_irule copy_place r (nowhere-copy_place r accepted) (λ i. no_use_of is_copy i.body) (λ before i e. ap not e)
