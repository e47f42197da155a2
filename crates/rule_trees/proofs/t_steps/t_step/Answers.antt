use Rattle.std.proofs.Common.{◌≡◌, ◌<◌, List, length, map, None, IfOk, option_map, ap, sym, ◌∙◌, subst}
use Rattle.descriptor_types.specs.Labels.{seen_tree}
use Rattle.rule_ast.specs.Seen.{seen_left, seen_operator, seen_trule}
use Rattle.rule_ast.specs.SeenRules.{seen_rules}
use Rattle.rule_ast.specs.declared.parts.Operator as operator
use Rattle.rule_ast.specs.declared.rule_set.Rules as rules
use Rattle.rule_runs.specs.SeenSides.{seen_side}
use Rattle.rule_runs.specs.Sides.{left_side}
use Rattle.rule_trees.proofs.FoundLaws.{match-IsMatchOf}
use Rattle.rule_trees.proofs.StepLaws.{came-step, found-match, found-none, step-none, there-at}
use Rattle.rule_trees.specs.Matches.{seen_match}
use Rattle.rule_trees.specs.Steps.{step}
use Rattle.rule_trees.specs.Trees.{IsTree}
use Rattle.rule_trees.proofs.t_steps.t_step.Goals as goal

pub rewritten-requires-clause-rule : goal.rewritten-requires-clause-rule
rewritten-requires-clause-rule c =
    let within = subst (λ (rs : rules.Rules). c.args.rule < length rs.trules) (sym c.rules-rules.ensures.same) c.requires.rule in
    (there-at seen_trule c.rules-rules.result.now.trules c.as_slice.result.now c.args.rule c.index-as_slice-rule.result c.as_slice.ensures (subst (λ ts. c.args.rule < length ts) (sym c.as_slice.ensures) within) c.index-as_slice-rule.is).0

pub rewritten-requires-clause-found : goal.rewritten-requires-clause-found
rewritten-requires-clause-found c =
    let r = seen_rules c.rules-rules.result.now in
    let l = seen_left c.index-as_slice-rule.result.left in
    let side = c.in_ok-side.ensures ∙ ap (λ (os : List operator.Operator). left_side (map seen_operator os) l) c.as_slice-2.ensures in
    let tree = subst (λ (rs : rules.Rules). IsTree (seen_rules rs) c.args.catalog.now (seen_tree c.args.t.now)) (sym c.rules-rules.ensures.same) c.requires.tree in
    match-IsMatchOf r c.args.catalog.now l (seen_tree c.args.t.now) (seen_match c.in-Some.found) tree (found-match r l (seen_tree c.args.t.now) (seen_side c.in_ok-side.side) c.in_ok-found.field-0 c.in-Some.found side c.in_ok-found.ensures c.in-Some.is)

pub returns-in-Some-clause-step : goal.returns-in-Some-clause-step
returns-in-Some-clause-step c =
    let r = seen_rules c.rules-rules.result.now in
    let l = seen_left c.index-as_slice-rule.result.left in
    let u = seen_tree c.args.t.now in
    let within = subst (λ (rs : rules.Rules). c.args.rule < length rs.trules) (sym c.rules-rules.ensures.same) c.requires.rule in
    let there = there-at seen_trule c.rules-rules.result.now.trules c.as_slice.result.now c.args.rule c.index-as_slice-rule.result c.as_slice.ensures (subst (λ ts. c.args.rule < length ts) (sym c.as_slice.ensures) within) c.index-as_slice-rule.is in
    let side = c.in_ok-side.ensures ∙ ap (λ (os : List operator.Operator). left_side (map seen_operator os) l) c.as_slice-2.ensures in
    let matches = found-match r l u (seen_side c.in_ok-side.side) c.in_ok-found.field-0 c.in-Some.found side c.in_ok-found.ensures c.in-Some.is in
    subst (λ (rs : rules.Rules). IfOk c.rewritten.result (λ o. option_map seen_tree o ≡ step (seen_rules rs) c.args.catalog.now c.args.rule u)) c.rules-rules.ensures.same
    (came-step r c.args.catalog.now c.args.rule u (seen_trule c.index-as_slice-rule.result) (seen_match c.in-Some.found) c.rewritten.result there.1 matches c.rewritten.ensures.made)

pub returns-clause-step : goal.returns-clause-step
returns-clause-step c =
    let r = seen_rules c.rules-rules.result.now in
    let l = seen_left c.index-as_slice-rule.result.left in
    let u = seen_tree c.args.t.now in
    let within = subst (λ (rs : rules.Rules). c.args.rule < length rs.trules) (sym c.rules-rules.ensures.same) c.requires.rule in
    let there = there-at seen_trule c.rules-rules.result.now.trules c.as_slice.result.now c.args.rule c.index-as_slice-rule.result c.as_slice.ensures (subst (λ ts. c.args.rule < length ts) (sym c.as_slice.ensures) within) c.index-as_slice-rule.is in
    let side = c.in_ok-side.ensures ∙ ap (λ (os : List operator.Operator). left_side (map seen_operator os) l) c.as_slice-2.ensures in
    let none = found-none r l u (seen_side c.in_ok-side.side) c.in_ok-found.field-0 side c.in_ok-found.ensures c.in-None.is in
    subst (λ (rs : rules.Rules). None ≡ step (seen_rules rs) c.args.catalog.now c.args.rule u) c.rules-rules.ensures.same (step-none r c.args.catalog.now c.args.rule u (seen_trule c.index-as_slice-rule.result) there.1 none)
