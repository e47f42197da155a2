use Rattle.std.proofs.Common.{false, map, ap, ◌∙◌}
use Rattle.std.proofs.lemmas.List.{take_all}
use Rattle.rule_ast.specs.Roles.{is_enforcer, leads_to_null}
use Rattle.rule_ast.specs.Seen.{seen_irule}
use Rattle.rule_types.proofs.RoleLaws.{any-more}
use Rattle.rule_types.proofs.roles.enforcer_names.Goals as goal

pub loop-rule-preserved : goal.loop-rule-preserved
loop-rule-preserved c = λ op.
    any-more (leads_to_null op) seen_irule c.args.rules.now c.loop-rule.rule-index c.rule-item.result false _ _ c.loop-rule-test.true c.rule-item.is (c.loop-rule.invariant op) (c.in_ok-push_enforcer.ensures op)

pub returns : goal.returns
returns c = λ op.
    c.loop-rule.invariant op ∙ ap (λ rules. is_enforcer (map seen_irule rules) op) (take_all _ _ c.loop-rule-test.false)
