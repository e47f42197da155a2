-- The defaults fit the layout and cost 0.
use Rattle.std.proofs.Common.{◌≡◌, true, false, cond, List, [], ◌∷◌, Some, ap}
use Rattle.std.specs.Str.{bytes_eq}
use Rattle.pr_value.specs.Symbols.{Symbol}
use Rattle.pr_value.specs.Values.{default_of}
use Rattle.pr_value.specs.declared.kind.Kind.TheVariants as kind
use Rattle.pr_value.specs.declared.property.Property.{Property}
use Rattle.pr_value.specs.declared.value.Value.TheVariants as value
use Rattle.action_eval.proofs.TypeLaws.{some-same}
use Rattle.descriptor_types.proofs.FitLaws.{fits-plain}
use Rattle.descriptor_types.specs.Descriptors.{plain, value_of}
use Rattle.rule_trees.specs.Trees.{IsDesc}
use Rattle.rule_ast.specs.CostForms.{cost_name}
use Rattle.rule_ast.specs.Syntax.{Rules}
use Rattle.rule_ast.specs.Typing.{property_kind}
use Rattle.rule_types.specs.AcceptedLaws.{HasOneCost}

value_of-plain : (ps : List Property) (name : Symbol) → property_kind ps name ≡ Some kind.Cost → value_of ps name (plain ps) ≡ value.Num 0
value_of-plain [] name is = cc
value_of-plain (p ∷ ps) name is =
    elim (bytes_eq p.name name) as (λ b. cond b (Some p.kind) (property_kind ps name) ≡ Some kind.Cost → cond b (default_of p.kind) (value_of ps name (plain ps)) ≡ value.Num 0) [
      | true ↦ λ e. ap default_of (some-same e)
      | false ↦ λ e. value_of-plain ps name e
    ] is

pub plain-sound : (r : Rules) → HasOneCost r → IsDesc r (plain r.properties)
plain-sound r one = (fits-plain r.properties, value_of-plain r.properties (cost_name r.properties) one.declared)
