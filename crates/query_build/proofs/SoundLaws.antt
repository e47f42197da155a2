-- The descriptors of a query without faults fit the layout and cost 0.
use Rattle.std.proofs.Common.{◌≡◌, Bool, true, false, cond, List, [], ◌∷◌, Option, Some, None, refl, ap, sym, ◌∙◌, subst}
use Rattle.std.specs.Prelude.{unwrap_or}
use Rattle.std.specs.Cmp.{first_so, second_so}
use Rattle.std.specs.Cmp.Derive.{both_true}
use Rattle.std.specs.Cmp.Lexicographic.{bytes_decides}
use Rattle.std.specs.List.{list_any}
use Rattle.std.specs.Str.{bytes_eq}
use Rattle.std.proofs.lemmas.Bool.{false≢true, not-false}
use Rattle.pr_value.specs.Symbols.{Symbol}
use Rattle.pr_value.specs.Values.{default_of, has_kind}
use Rattle.pr_value.specs.declared.kind.Kind.{Kind}
use Rattle.pr_value.specs.declared.kind.Kind.TheVariants as kind
use Rattle.pr_value.specs.declared.property.Property.{Property}
use Rattle.pr_value.specs.declared.value.Value.{Value}
use Rattle.pr_value.specs.declared.value.Value.TheVariants as value
use Rattle.pr_value.proofs.ValueLaws.{has_kind-default_of}
use Rattle.action_eval.proofs.PlainLaws.{or_first, or_second}
use Rattle.action_eval.proofs.TypeLaws.{some-same}
use Rattle.catalog.specs.Contents.{Field, field}
use Rattle.descriptor_types.specs.Descriptors.{Desc, plain, fits, value_of, with_value}
use Rattle.descriptor_types.proofs.FitLaws.{fits-plain}
use Rattle.descriptor_types.proofs.PlaceLaws.{value_of-with_other}
use Rattle.query_build.specs.Query.{file_desc, literal_value, with_settings}
use Rattle.query_build.specs.Refusals.{is_wrong_for, is_wrong_field, is_wrong_file, is_wrong_setting, first_setting}
use Rattle.rule_trees.specs.Trees.{IsDesc}
use Rattle.rule_ast.specs.CostForms.{cost_name, is_cost}
use Rattle.rule_ast.specs.Syntax.{Rules}
use Rattle.rule_ast.specs.Typing.{property_kind}
use Rattle.rule_ast.specs.declared.query.Setting.{Setting}
use Rattle.rule_types.specs.AcceptedLaws.{HasOneCost}

-- ---- files

cost_field : (p : Property) (o : Option Value) → p.kind ≡ kind.Cost → is_wrong_field p o ≡ false → unwrap_or o (default_of p.kind) ≡ value.Num 0
cost_field p None is right = ap default_of is
cost_field p (Some v) is right = absurd (false≢true (sym (or_first (is_cost p.kind) _ right) ∙ ap is_cost is))

kind_field : (p : Property) (o : Option Value) → is_wrong_field p o ≡ false → has_kind p.kind (unwrap_or o (default_of p.kind)) ≡ true
kind_field p None right = has_kind-default_of p.kind
kind_field p (Some v) right = not-false _ (or_second (is_cost p.kind) _ right)

fits-file_desc : (ps : List Property) (fields : List Field) → list_any (λ p. is_wrong_field p (field fields p.name)) ps ≡ false → fits ps (file_desc ps fields) ≡ true
fits-file_desc [] fields right = refl
fits-file_desc (p ∷ ps) fields right =
    both_true (kind_field p (field fields p.name) (or_first (is_wrong_field p (field fields p.name)) _ right))
    (fits-file_desc ps fields (or_second (is_wrong_field p (field fields p.name)) _ right))

value_of-file_desc : (ps : List Property) (fields : List Field) (name : Symbol) → property_kind ps name ≡ Some kind.Cost → list_any (λ p. is_wrong_field p (field fields p.name)) ps ≡ false
    → value_of ps name (file_desc ps fields) ≡ value.Num 0
value_of-file_desc [] fields name is right = refl
value_of-file_desc (p ∷ ps) fields name is right =
    elim (bytes_eq p.name name) as (λ b. cond b (Some p.kind) (property_kind ps name) ≡ Some kind.Cost
    → cond b (unwrap_or (field fields p.name) (default_of p.kind)) (value_of ps name (file_desc ps fields)) ≡ value.Num 0) [
      | true ↦ λ e. cost_field p (field fields p.name) (some-same e) (or_first (is_wrong_field p (field fields p.name)) _ right)
      | false ↦ λ e. value_of-file_desc ps fields name e (or_second (is_wrong_field p (field fields p.name)) _ right)
    ] is

pub file-sound : (r : Rules) (fields : List Field) → HasOneCost r → is_wrong_file r fields ≡ false → IsDesc r (file_desc r.properties fields)
file-sound r fields one right =
    (fits-file_desc r.properties fields right, value_of-file_desc r.properties fields (cost_name r.properties) one.declared right)

-- ---- settings

with_value-undeclared : (ps : List Property) (name : Symbol) (w : Value) (d : Desc) → property_kind ps name ≡ None → with_value ps name w d ≡ d
with_value-undeclared [] name w d is = refl
with_value-undeclared (p ∷ ps) name w [] is = refl
with_value-undeclared (p ∷ ps) name w (v ∷ d) is =
    elim (bytes_eq p.name name) as (λ b. cond b (Some p.kind) (property_kind ps name) ≡ None → cond b (w ∷ d) (v ∷ with_value ps name w d) ≡ v ∷ d) [
      | true ↦ λ e. cc
      | false ↦ λ e. ap (λ (f : Desc). v ∷ f) (with_value-undeclared ps name w d e)
    ] is

fits-with_kind : (ps : List Property) (name : Symbol) (k : Kind) (w : Value) (d : Desc) → property_kind ps name ≡ Some k → has_kind k w ≡ true → fits ps d ≡ true → fits ps (with_value ps name w d) ≡ true
fits-with_kind [] name k w d is kind fit = cc
fits-with_kind (p ∷ ps) name k w [] is kind fit = fit
fits-with_kind (p ∷ ps) name k w (v ∷ d) is kind fit =
    elim (bytes_eq p.name name) as (λ b. cond b (Some p.kind) (property_kind ps name) ≡ Some k → fits (p ∷ ps) (cond b (w ∷ d) (v ∷ with_value ps name w d)) ≡ true) [
      | true ↦ λ e. both_true (subst (λ (l : Kind). has_kind l w ≡ true) (sym (some-same e)) kind) (second_so (has_kind p.kind v) _ fit)
      | false ↦ λ e. both_true (first_so (has_kind p.kind v) _ fit) (fits-with_kind ps name k w d e kind (second_so (has_kind p.kind v) _ fit))
    ] is

-- a property of another kind is not the cost
not_cost : (r : Rules) → HasOneCost r → (name : Symbol) (k : Kind) → property_kind r.properties name ≡ Some k → is_cost k ≡ false → bytes_eq name (cost_name r.properties) ≡ false
not_cost r one name k is other =
    elim (bytes_eq name (cost_name r.properties)) as (λ b. bytes_eq name (cost_name r.properties) ≡ b → b ≡ false) [
      | true ↦ λ e.
          let same : name ≡ cost_name r.properties = (bytes_decides name (cost_name r.properties)).0 e in
          let cost : k ≡ kind.Cost = some-same (sym is ∙ (ap (property_kind r.properties) same ∙ one.declared)) in
          absurd (false≢true (sym other ∙ ap is_cost cost))
      | false ↦ λ e. refl
    ] refl

set-sound : (r : Rules) → HasOneCost r → (name : Symbol) (o : Option Kind) (w : Value) (d : Desc) → property_kind r.properties name ≡ o → is_wrong_for o w ≡ false → IsDesc r d → IsDesc r (with_value r.properties name w d)
set-sound r one name None w d is right sound = subst (λ (e : Desc). IsDesc r e) (sym (with_value-undeclared r.properties name w d is)) sound
set-sound r one name (Some k) w d is right sound = (
  fits-with_kind r.properties name k w d is (not-false _ (or_second (is_cost k) _ right)) sound.0,
  value_of-with_other r.properties name (cost_name r.properties) w d (not_cost r one name k is (or_first (is_cost k) _ right)) ∙ sound.1,
)

no_first : (b : Bool) (s : Symbol) (o : Option Symbol) → cond b (Some s) o ≡ None → (b ≡ false) × (o ≡ None)
no_first true s o is = cc
no_first false s o is = (refl, is)

pub settings-sound : (r : Rules) → HasOneCost r → (ss : List Setting) (d : Desc) → first_setting (is_wrong_setting r) ss ≡ None → IsDesc r d → IsDesc r (with_settings r.properties ss d)
settings-sound r one [] d right sound = sound
settings-sound r one (s ∷ ss) d right sound =
    let here = no_first (is_wrong_setting r s) s.property (first_setting (is_wrong_setting r) ss) right in
    settings-sound r one ss (with_value r.properties s.property (literal_value s.value) d) here.1
    (set-sound r one s.property (property_kind r.properties s.property) (literal_value s.value) d refl here.0 sound)
