-- The property that is a cost, by its name.
use Rattle.std.proofs.Common.{◌≡◌, Bool, true, false, cond, not, ◌||◌, List, [], ◌∷◌, length, Some, refl, ap, sym, ◌∙◌, arith}
use Rattle.std.proofs.lemmas.Bool.{and_parts, false_from_ne_true, not-true, or_left, or_right, true≢false}
use Rattle.std.specs.Cmp.Lexicographic.{bytes_decides}
use Rattle.std.specs.Str.{bytes_eq}
use Rattle.pr_value.specs.Repeats.{are_distinct}
use Rattle.pr_value.specs.Symbols.{Symbol}
use Rattle.pr_value.specs.SymbolSets.{contains}
use Rattle.pr_value.specs.declared.kind.Kind.{Kind}
use Rattle.pr_value.specs.declared.kind.Kind.TheVariants as kind
use Rattle.pr_value.specs.declared.property.Property.{Property}
use Rattle.rule_ast.specs.CostForms.{cost_name, is_cost}
use Rattle.rule_ast.specs.Typing.{property_kind}
use Rattle.rule_types.specs.AcceptedLaws.{costs_of}
use Rattle.rule_types.specs.Conditions.{has_cost, property_names}

is_cost-Cost : (k : Kind) → is_cost k ≡ true → k ≡ kind.Cost
is_cost-Cost kind.Num e = absurd (cc e)
is_cost-Cost kind.Truth e = absurd (cc e)
is_cost-Cost kind.Symbol e = absurd (cc e)
is_cost-Cost kind.Set e = absurd (cc e)
is_cost-Cost kind.List e = absurd (cc e)
is_cost-Cost kind.Cost e = refl

bytes_eq-same : (s : Symbol) → bytes_eq s s ≡ true
bytes_eq-same s = (bytes_decides s s).1 refl

cost_named : (ps : List Property) → has_cost ps ≡ true → contains (property_names ps) (cost_name ps) ≡ true
cost_named [] h = absurd (cc h)
cost_named (p ∷ ps) h = by (is_cost p.kind) h (cost_named ps)
  where
    by : (b : Bool) → (b || has_cost ps) ≡ true → (has_cost ps ≡ true → contains (property_names ps) (cost_name ps) ≡ true) → contains (property_names (p ∷ ps)) (cond b p.name (cost_name ps)) ≡ true
    by true e rest = or_left (bytes_eq p.name p.name) (contains (property_names ps) p.name) (bytes_eq-same p.name)
    by false e rest = or_right (bytes_eq (cost_name ps) p.name) (contains (property_names ps) (cost_name ps)) (rest e)

-- another name
named_apart : (ss : List Symbol) (s t : Symbol) → contains ss s ≡ false → contains ss t ≡ true → bytes_eq s t ≡ false
named_apart ss s t without within =
    false_from_ne_true (bytes_eq s t) (λ same. true≢false (sym within ∙ ap (contains ss) (sym ((bytes_decides s t).0 same)) ∙ without))

-- the name of the cost is the name of a cost
pub cost_declared : (ps : List Property) → are_distinct (property_names ps) ≡ true → has_cost ps ≡ true → property_kind ps (cost_name ps) ≡ Some kind.Cost
cost_declared [] apart h = absurd (cc h)
cost_declared (p ∷ ps) apart h =
    let parts = and_parts (not (contains (property_names ps) p.name)) (are_distinct (property_names ps)) apart in
    by (is_cost p.kind) refl h (not-true (contains (property_names ps) p.name) parts.0) (cost_declared ps parts.1)
  where
    by : (b : Bool) → is_cost p.kind ≡ b → (b || has_cost ps) ≡ true → contains (property_names ps) p.name ≡ false → (has_cost ps ≡ true → property_kind ps (cost_name ps) ≡ Some kind.Cost)
        → property_kind (p ∷ ps) (cond b p.name (cost_name ps)) ≡ Some kind.Cost
    by true is e new rest =
        ap (λ b. cond b (Some p.kind) (property_kind ps p.name)) (bytes_eq-same p.name) ∙ ap Some (is_cost-Cost p.kind is)
    by false is e new rest =
        ap (λ b. cond b (Some p.kind) (property_kind ps (cost_name ps))) (named_apart (property_names ps) p.name (cost_name ps) new (cost_named ps e)) ∙ rest e

kind_in : (k l : Kind) → Some k ≡ Some l → k ≡ l
kind_in k l e = cc e

cost_or_not : (k : Kind) → Some k ≡ Some kind.Cost → is_cost k ≡ false → ⊥
cost_or_not k e is = true≢false (sym (ap is_cost (kind_in k kind.Cost e)) ∙ is)

-- none is a cost where none is counted
no_cost : (ps : List Property) (name : Symbol) → length (costs_of ps) ≡ 0 → property_kind ps name ≡ Some kind.Cost → ⊥
no_cost [] name none is = cc is
no_cost (p ∷ ps) name none is = by (is_cost p.kind) (bytes_eq p.name name) refl none is (no_cost ps name)
  where
    by : (b c : Bool) → is_cost p.kind ≡ b → length (cond b (p ∷ costs_of ps) (costs_of ps)) ≡ 0 → cond c (Some p.kind) (property_kind ps name) ≡ Some kind.Cost
        → (length (costs_of ps) ≡ 0 → property_kind ps name ≡ Some kind.Cost → ⊥) → ⊥
    by true c kinds e f rest = omega (arith, e)
    by false true kinds e f rest = cost_or_not p.kind f kinds
    by false false kinds e f rest = rest e f

-- what is declared as a cost is the one cost
pub only_cost : (ps : List Property) (name : Symbol) → length (costs_of ps) ≡ 1 → property_kind ps name ≡ Some kind.Cost → name ≡ cost_name ps
only_cost [] name one is = absurd (cc is)
only_cost (p ∷ ps) name one is = by (is_cost p.kind) (bytes_eq p.name name) refl refl one is (only_cost ps name)
  where
    by : (b c : Bool) → is_cost p.kind ≡ b → bytes_eq p.name name ≡ c → length (cond b (p ∷ costs_of ps) (costs_of ps)) ≡ 1 → cond c (Some p.kind) (property_kind ps name) ≡ Some kind.Cost
        → (length (costs_of ps) ≡ 1 → property_kind ps name ≡ Some kind.Cost → name ≡ cost_name ps) → name ≡ cond b p.name (cost_name ps)
    by true true kinds same e f rest = sym ((bytes_decides p.name name).0 same)
    by true false kinds same e f rest = absurd (no_cost ps name (omega (arith, e)) f)
    by false true kinds same e f rest = absurd (cost_or_not p.kind f kinds)
    by false false kinds same e f rest = rest e f
