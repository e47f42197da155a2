use Rattle.action_eval.specs.SeenEnv.{seen_env}
use Rattle.rule_ast.specs.Descs.{irule_descs}
use Rattle.rule_ast.specs.Seen.{seen_irule}
use Rattle.rule_ast.specs.SeenRules.{seen_rules}
use Rattle.rule_runs.proofs.RunLaws.{body-typed}
use Rattle.rule_runs.proofs.irules.irule_tested.Goals as goal

pub passes-requires-clause-typed : goal.passes-requires-clause-typed
passes-requires-clause-typed c =
    let i = seen_irule c.args.rule.now in
    body-typed (seen_rules c.args.running.now.rules.now) (irule_descs i) (seen_env c.in_ok-env.env) i.body c.in_ok-env.ensures.ready c.requires.rule.typed
