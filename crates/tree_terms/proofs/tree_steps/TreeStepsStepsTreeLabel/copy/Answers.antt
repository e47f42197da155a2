use Rattle.std.proofs.Common.{ap, sym, ◌∙◌}
use Rattle.enforcer_find.specs.Enforcers.{operator_rules}
use Rattle.rule_ast.specs.SeenRules.{seen_rules}
use Rattle.tree_terms.proofs.TreeStepsLaws.{same_steps}
use Rattle.tree_terms.proofs.tree_steps.TreeStepsStepsTreeLabel.copy.Goals as goal

pub returns : goal.returns
returns c =
    same_steps _ c.args.self.now c.in_ok-rules.ensures c.in_ok-layout.ensures c.in_ok-classes.ensures
    (c.in_ok-enforcers.ensures.rules ∙ (ap (λ r. operator_rules (seen_rules r)) c.in_ok-rules.ensures ∙ sym c.args.self.now.enforced)) c.in_ok-catalog.ensures
