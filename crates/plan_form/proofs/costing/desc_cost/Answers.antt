use Rattle.std.proofs.Common.{ap, sym, ◌∙◌, arith}
use Rattle.pr_value.specs.Values.{number_in}
use Rattle.rule_ast.specs.CostForms.{cost_name}
use Rattle.plan_form.proofs.CostLaws.{value_of-none, value_of-past, value_of-placed}
use Rattle.plan_form.proofs.costing.desc_cost.Goals as goal

pub returns-then-place-count : goal.returns-then-place-count
returns-then-place-count c =
    let l = c.args.rules.now.properties in
    c.number_in.ensures ∙ ap number_in (sym (value_of-placed l (cost_name l) c.args.desc.now c.in-Some.place c.get.result.now (sym c.cost_place.ensures ∙ c.in-Some.is) c.get.ensures))

pub returns-else-place-count : goal.returns-else-place-count
returns-else-place-count c =
    let l = c.args.rules.now.properties in
    ap number_in (sym (value_of-past l (cost_name l) c.args.desc.now c.in-Some.place (sym c.cost_place.ensures ∙ c.in-Some.is) (omega (arith, c.count.ensures, c.if-place-count.false))))

pub returns-in-None : goal.returns-in-None
returns-in-None c =
    let l = c.args.rules.now.properties in
    ap number_in (sym (value_of-none l (cost_name l) c.args.desc.now (sym c.cost_place.ensures ∙ c.in-None.is)))
