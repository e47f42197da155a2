use Rattle.std.proofs.Common.{false, map, ap, ◌∙◌}
use Rattle.std.proofs.lemmas.List.{take_all}
use Rattle.rule_ast.specs.Roles.{is_physical, passes_on}
use Rattle.rule_ast.specs.Seen.{seen_irule}
use Rattle.rule_types.proofs.RoleLaws.{any-more}
use Rattle.rule_types.proofs.roles.physical_names.Goals as goal

pub loop-rule-preserved : goal.loop-rule-preserved
loop-rule-preserved c = λ p.
    any-more (passes_on p) seen_irule c.args.rules.now c.loop-rule.rule-index c.rule-item.result false _ _ c.loop-rule-test.true c.rule-item.is (c.loop-rule.invariant p) (c.in_ok-push_passed.ensures p)

pub returns : goal.returns
returns c = λ p.
    c.loop-rule.invariant p ∙ ap (λ rules. is_physical (map seen_irule rules) p) (take_all _ _ c.loop-rule-test.false)
