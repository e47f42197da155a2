use Rattle.std.proofs.Common.{sym, ◌∙◌, arith}
use Rattle.pr_value.specs.declared.value.Value.TheVariants as value
use Rattle.descriptor_types.proofs.PlaceLaws.{with_value-at, with_value-none}
use Rattle.rule_ast.specs.CostForms.{cost_name}
use Rattle.plan_form.proofs.CostLaws.{with_value-past}
use Rattle.plan_form.proofs.costing.set_cost.Goals as goal

pub returns-then-place-count : goal.returns-then-place-count
returns-then-place-count c =
    let l = c.args.rules.now.properties in
    c.set.ensures.value ∙ sym (with_value-at l (cost_name l) (value.Num c.args.cost) c.args.desc.now c.in-Some.place (sym c.cost_place.ensures ∙ c.in-Some.is))

pub returns-else-place-count : goal.returns-else-place-count
returns-else-place-count c =
    let l = c.args.rules.now.properties in
    sym (with_value-past l (cost_name l) (value.Num c.args.cost) c.args.desc.now c.in-Some.place (sym c.cost_place.ensures ∙ c.in-Some.is) (omega (arith, c.count.ensures, c.if-place-count.false)))

pub returns-in-None : goal.returns-in-None
returns-in-None c =
    let l = c.args.rules.now.properties in
    sym (with_value-none l (cost_name l) (value.Num c.args.cost) c.args.desc.now (sym c.cost_place.ensures ∙ c.in-None.is))
