use Rattle.std.proofs.Common.{map, ap, ◌∙◌}
use Rattle.action_eval.specs.Environments.{after, are_typed_here}
use Rattle.action_eval.specs.SeenEnv.{seen_env}
use Rattle.rule_ast.specs.CostGiven.{but_last}
use Rattle.rule_ast.specs.Descs.{irule_descs}
use Rattle.rule_ast.specs.Seen.{seen_irule, seen_stmt}
use Rattle.rule_ast.specs.SeenRules.{seen_rules}
use Rattle.rule_runs.proofs.AskedLaws.{but_last-map, but_last-typed}
use Rattle.rule_runs.proofs.RunLaws.{post-typed}
use Rattle.rule_runs.proofs.irules.run_but_last.Goals as goal

pub run_statements-requires-clause-typed : goal.run_statements-requires-clause-typed
run_statements-requires-clause-typed c =
    let r = seen_rules c.args.running.now.rules.now in
    let i = seen_irule c.args.rule.now in
    let env = seen_env c.args.env.now in
    ap (are_typed_here env) (but_last-map seen_stmt c.as_slice-post.result.now c.saturating_sub.result c.saturating_sub.ensures)
    ∙ (ap (λ ss. are_typed_here env (but_last (map seen_stmt ss))) c.as_slice-post.ensures
    ∙ but_last-typed env i.body.post (post-typed r (irule_descs i) env i.body c.requires.ready c.requires.rule.typed))

pub returns-clause-run : goal.returns-clause-run
returns-clause-run c =
    c.in_ok-run_statements.ensures.ok
    ∙ ap (after (seen_env c.args.env.now) c.args.running.now.catalog.now) (but_last-map seen_stmt c.as_slice-post.result.now c.saturating_sub.result c.saturating_sub.ensures ∙ ap (λ ss. but_last (map seen_stmt ss)) c.as_slice-post.ensures)
