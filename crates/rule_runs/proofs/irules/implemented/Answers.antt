use Rattle.std.proofs.Common.{ap, ◌∙◌}
use Rattle.action_eval.specs.SeenEnv.{seen_env}
use Rattle.descriptor_types.specs.Descriptors.{Desc, fits}
use Rattle.rule_ast.specs.Descs.{irule_descs}
use Rattle.rule_ast.specs.Seen.{seen_irule}
use Rattle.rule_ast.specs.SeenRules.{seen_rules}
use Rattle.rule_runs.proofs.AskedLaws.{algorithm-known, ready-fits}
use Rattle.rule_runs.proofs.irules.implemented.Goals as goal

pub returns-clause-before : goal.returns-clause-before
returns-clause-before c =
    let r = seen_rules c.args.running.now.rules.now in
    let i = seen_irule c.args.rule.now in
    ap (λ (d : Desc). fits r.properties d) c.in_ok-before.ensures
    ∙ ready-fits r (irule_descs i) (seen_env c.run_but_last.new.env) i.right.desc c.in_ok-run_but_last.ensures.ready (algorithm-known i)
