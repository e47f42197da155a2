use Rattle.std.proofs.Common.{◌||◌, map, ap, ◌∙◌}
use Rattle.std.proofs.lemmas.List.{take_all}
use Rattle.std.specs.List.{list_any}
use Rattle.pr_value.specs.SymbolSets.{contains}
use Rattle.rule_ast.specs.Roles.{assigns}
use Rattle.rule_ast.specs.Seen.{seen_stmt}
use Rattle.rule_types.proofs.RoleLaws.{any-more}
use Rattle.rule_types.proofs.roles.push_all_given.Goals as goal

pub loop-s-preserved : goal.loop-s-preserved
loop-s-preserved c = λ p.
    any-more (assigns c.args.inputs.now p) seen_stmt c.args.ss.now c.loop-s.s-index c.s-item.result _ _ _ c.loop-s-test.true c.s-item.is (c.loop-s.invariant p) (c.in_ok-push_given.ensures p)

pub returns : goal.returns
returns c = λ p.
    c.loop-s.invariant p ∙ ap (λ ss. contains c.args.out.now.items p || list_any (assigns c.args.inputs.now p) (map seen_stmt ss)) (take_all _ _ c.loop-s-test.false)
