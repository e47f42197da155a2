use Rattle.std.proofs.Common.{map, ap, ◌∙◌}
use Rattle.action_eval.specs.Environments.{are_typed_here}
use Rattle.action_eval.specs.SeenEnv.{seen_env}
use Rattle.rule_ast.specs.Descs.{trule_descs}
use Rattle.rule_ast.specs.Seen.{seen_stmt, seen_trule}
use Rattle.rule_ast.specs.SeenRules.{seen_rules}
use Rattle.rule_runs.proofs.RunLaws.{body-typed, came-true, post-typed, ready-after, tested-rules}
use Rattle.rule_runs.proofs.trules.trule_run.Goals as goal

pub passes-requires-clause-typed : goal.passes-requires-clause-typed
passes-requires-clause-typed c =
    let t = seen_trule c.args.rule.now in
    body-typed (seen_rules c.args.running.now.rules.now) (trule_descs t) (seen_env c.in_ok-env.env) t.body c.in_ok-env.ensures.ready c.requires.rule

pub run_statements-requires-clause-typed : goal.run_statements-requires-clause-typed
run_statements-requires-clause-typed c =
    let r = seen_rules c.args.running.now.rules.now in
    let t = seen_trule c.args.rule.now in
    let catalog = c.args.running.now.catalog.now in
    let start = seen_env c.in_ok-env.env in
    let mid = seen_env c.passes.new.env in
    let tested = came-true catalog t.body c.in_ok-passes.field-0 start mid c.in_ok-passes.ensures.tested c.if-not-branch.false in
    let ready = ready-after r (trule_descs t) start mid c.in_ok-env.ensures.ready c.in_ok-passes.ensures.sound c.in_ok-passes.ensures.context (tested-rules catalog t.body start mid tested) in
    ap (λ ss. are_typed_here mid (map seen_stmt ss)) c.as_slice.ensures ∙ post-typed r (trule_descs t) mid t.body ready c.requires.rule
