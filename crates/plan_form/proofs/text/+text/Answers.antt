use Rattle.std.proofs.Common.{◌≡◌, ◌+◌, ◌∷◌, [], ◌++◌, take, map, ap, sym, ◌∙◌, arith}
use Rattle.std.proofs.lemmas.List.{map-append, take_more}
use Rattle.rule_ast.specs.SeenRules.{seen_rules}
use Rattle.plan_form.specs.declared.plan.Plan as rust
use Rattle.std.specs.Option.{option_copied}
use Rattle.plan_form.specs.Plans.{seen_plan}
use Rattle.plan_form.proofs.SeenLaws.{seen_algorithm}
use Rattle.plan_form.proofs.TextLaws.{inputs_more, node_pieces}
use Rattle.plan_form.proofs.text.+text.Goals as goal

pub push_inputs-loop-plan-preserved : goal.push_inputs-loop-plan-preserved
push_inputs-loop-plan-preserved t c =
    let plans = c.args.plans.now in
    let plan = c.plan-item.result in
    let i = c.loop-plan.plan-index in
    let more : take (i + 1) plans ≡ take i plans ++ plan ∷ [] = take_more plans i plan (omega arith) ∙ ap (λ (p : rust.Plan). take i plans ++ p ∷ []) (sym c.plan-item.is) in
    inputs_more (seen_rules c.args.rules.now) c.args.indent.now (map seen_plan (take i plans)) (map seen_plan (take (i + 1) plans)) (seen_plan plan) c.args.out.now c.loop-plan.out c.push_node.new.out
    (ap (map seen_plan) more ∙ map-append seen_plan (take i plans) (plan ∷ [])) c.loop-plan.invariant c.in_ok-push_node.ensures

pub push_node-returns-in_ok-push_inputs-in-Alg : goal.push_node-returns-in_ok-push_inputs-in-Alg
push_node-returns-in_ok-push_inputs-in-Alg t c =
    node_pieces (seen_rules c.args.rules.now) c.args.indent.now c.as_slice-below.result.now c.in-Alg.rule c.in-Alg.desc (option_copied c.algorithm_name-name.result) (map seen_plan c.in-Alg.inputs) (map seen_plan c.as_slice-plans.result.now) (seen_plan c.args.plan.now)
    c.args.out.now c.push_line.new.out c.push_inputs.new.out (ap seen_plan c.in-Alg.is ∙ seen_algorithm c.in-Alg.rule c.in-Alg.desc c.in-Alg.inputs)
    (c.as_slice-below.ensures ∙ c.in_ok-inner-in-Alg.ensures) (ap (map seen_plan) c.as_slice-plans.ensures) c.algorithm_name-name.ensures c.in_ok-push_line-in-Alg.ensures c.in_ok-push_inputs-in-Alg.ensures
