use Rattle.std.proofs.Common.{◌<◌, List, ap, get_or, length, subst, ◌∙◌}
use Rattle.rule_ast.specs.Seen.{seen_trule}
use Rattle.rule_ast.specs.SeenRules.{seen_rules}
use Rattle.rule_ast.specs.declared.parts.TRule as trule
use Rattle.rule_trees.proofs.AcceptedFacts.{contains-map, slice_get-map}
use Rattle.tree_terms.proofs.TermStepLaws.{steps-given}
use Rattle.tree_terms.proofs.tree_steps.TreeStepsStepsTreeLabel.step.Goals as goal

pub step_by-requires-clause-rule : goal.step_by-requires-clause-rule
step_by-requires-clause-rule c =
    let within = subst (λ (ts : List trule.TRule). c.args.rule < length ts) c.as_slice.ensures c.in-Some.ensures.lookup.3.0 in
    let is = c.in-Some.ensures.lookup.1 ∙ ap (λ (ts : List trule.TRule). get_or ts c.args.rule c.in-Some.trule.now) c.as_slice.ensures in
    contains-map seen_trule c.args.self.now.rules.trules c.args.rule c.in-Some.trule.now within is

pub returns-clause-made : goal.returns-clause-made
returns-clause-made c =
    let within = subst (λ (ts : List trule.TRule). c.args.rule < length ts) c.as_slice.ensures c.in-Some.ensures.lookup.3.0 in
    let is = c.in-Some.ensures.lookup.1 ∙ ap (λ (ts : List trule.TRule). get_or ts c.args.rule c.in-Some.trule.now) c.as_slice.ensures in
    steps-given (seen_rules c.args.self.now.rules) c.args.self.now.catalog c.args.rule (seen_trule c.in-Some.trule.now) c.args.terms.now c.step_by.new.terms c.args.node c.in_ok-made.made
    (slice_get-map seen_trule c.args.self.now.rules.trules c.args.rule c.in-Some.trule.now within is) c.in_ok-made.ensures.step
