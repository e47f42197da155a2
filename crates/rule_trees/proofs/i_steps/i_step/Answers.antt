use Rattle.std.proofs.Common.{◌≡◌, ◌<◌, List, length, map, None, IfOk, option_map, ap, sym, ◌∙◌, subst}
use Rattle.action_eval.specs.SeenForms.{seen_step}
use Rattle.descriptor_types.specs.Labels.{seen_tree}
use Rattle.property_classes.specs.Classes.{classes_of, is_physical}
use Rattle.rule_ast.specs.Seen.{seen_irule, seen_left, seen_operator}
use Rattle.rule_ast.specs.SeenRules.{seen_rules}
use Rattle.rule_ast.specs.declared.parts.Operator as operator
use Rattle.rule_ast.specs.declared.rule_set.Rules as rules
use Rattle.rule_runs.specs.SeenSides.{seen_side}
use Rattle.rule_runs.specs.Sides.{left_side}
use Rattle.rule_types.specs.Conditions.{refused_by}
use Rattle.rule_trees.proofs.AcceptedFacts.{irule-CanImplement}
use Rattle.rule_trees.proofs.FoundLaws.{match-IsMatchOf, match-slots}
use Rattle.rule_trees.proofs.StepLaws.{came-i_step, found-match, there-at}
use Rattle.rule_trees.specs.Matches.{seen_match}
use Rattle.rule_trees.specs.Steps.{i_step}
use Rattle.rule_trees.specs.Trees.{IsTree}
use Rattle.rule_trees.proofs.i_steps.i_step.Goals as goal

pub run_irule-requires-clause-rule : goal.run_irule-requires-clause-rule
run_irule-requires-clause-rule c =
    let r = seen_rules c.rules-rules.result.now in
    let within = subst (λ (rs : rules.Rules). c.args.rule < length rs.irules) (sym c.rules-rules.ensures.same) c.requires.rule in
    irule-CanImplement r (ap (λ rs. refused_by (seen_rules rs)) c.rules-rules.ensures.same ∙ c.rules-rules.ensures.accepted) (seen_irule c.index-as_slice-rule.result)
    (there-at seen_irule c.rules-rules.result.now.irules c.as_slice.result.now c.args.rule c.index-as_slice-rule.result c.as_slice.ensures (subst (λ ts. c.args.rule < length ts) (sym c.as_slice.ensures) within) c.index-as_slice-rule.is).0

pub run_irule-requires-clause-slots : goal.run_irule-requires-clause-slots
run_irule-requires-clause-slots c =
    let r = seen_rules c.rules-rules.result.now in
    let l = seen_left c.index-as_slice-rule.result.left in
    let u = seen_tree c.args.t.now in
    let side = c.in_ok-side.ensures ∙ ap (λ (os : List operator.Operator). left_side (map seen_operator os) l) c.as_slice-2.ensures in
    let tree = subst (λ (rs : rules.Rules). IsTree (seen_rules rs) c.args.catalog.now u) (sym c.rules-rules.ensures.same) c.requires.tree in
    let m = seen_match c.in-Some.found in
    match-slots r c.args.catalog.now l m (match-IsMatchOf r c.args.catalog.now l u m tree (found-match r l u (seen_side c.in_ok-side.side) c.in_ok-found.field-0 c.in-Some.found side c.in_ok-found.ensures c.in-Some.is))

pub returns-clause-step : goal.returns-clause-step
returns-clause-step c =
    let r = seen_rules c.rules-rules.result.now in
    let l = seen_left c.index-as_slice-rule.result.left in
    let u = seen_tree c.args.t.now in
    let within = subst (λ (rs : rules.Rules). c.args.rule < length rs.irules) (sym c.rules-rules.ensures.same) c.requires.rule in
    let there =
    there-at seen_irule c.rules-rules.result.now.irules c.as_slice.result.now c.args.rule c.index-as_slice-rule.result c.as_slice.ensures (subst (λ ts. c.args.rule < length ts) (sym c.as_slice.ensures) within) c.index-as_slice-rule.is in
    let side = c.in_ok-side.ensures ∙ ap (λ (os : List operator.Operator). left_side (map seen_operator os) l) c.as_slice-2.ensures in
    let matches = found-match r l u (seen_side c.in_ok-side.side) c.in_ok-found.field-0 c.in-Some.found side c.in_ok-found.ensures c.in-Some.is in
    let mask = c.physical.ensures ∙ ap (map is_physical) (c.requires.classes ∙ ap (λ rs. classes_of (seen_rules rs)) (sym c.rules-rules.ensures.same)) in
    subst (λ (rs : rules.Rules). IfOk c.run_irule.result (λ o. option_map seen_step o ≡ i_step (seen_rules rs) c.args.catalog.now c.args.rule u)) c.rules-rules.ensures.same
    (came-i_step r c.args.catalog.now c.args.rule u (seen_irule c.index-as_slice-rule.result) (seen_match c.in-Some.found) c.physical.result.now c.run_irule.result there.1 matches mask c.run_irule.ensures.step)
