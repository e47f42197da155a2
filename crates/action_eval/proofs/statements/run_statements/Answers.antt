use Rattle.std.proofs.Common.{map, take, ap, ◌∙◌}
use Rattle.rule_ast.specs.Seen.{seen_stmt}
use Rattle.action_eval.specs.Environments.{after}
use Rattle.action_eval.specs.SeenEnv.{seen_env}
use Rattle.action_eval.proofs.StatementLaws.{after-more, take-map, typed-later, on-err}
use Rattle.action_eval.proofs.statements.run_statements.Goals as goal

pub run_statement-requires-clause-typed : goal.run_statement-requires-clause-typed
run_statement-requires-clause-typed c =
    typed-later (seen_env c.args.env.now) (seen_env c.loop-statement.env) c.args.catalog.now (map seen_stmt (take c.loop-statement.statement-index c.args.statements.now)) c.args.statements.now c.loop-statement.statement-index c.statement-item.result
    c.requires.typed c.loop-statement-test.true c.statement-item.is c.loop-statement.invariant.run c.loop-statement.invariant.context

pub returns-in_err-run_statement-clause-err : goal.returns-in_err-run_statement-clause-err
returns-in_err-run_statement-clause-err c =
    on-err c.from_residual.result _ (
      c.loop-statement.statement-index,
      c.in_err-run_statement.ensures.err ∙ c.loop-statement.invariant.run ∙ ap (after (seen_env c.args.env.now) c.args.catalog.now) (take-map c.args.statements.now c.loop-statement.statement-index),
    )

pub loop-statement-preserved : goal.loop-statement-preserved
loop-statement-preserved c =
    record {
      run =
          after-more (seen_env c.args.env.now) (seen_env c.loop-statement.env) (seen_env c.run_statement.new.env) c.args.catalog.now c.args.statements.now c.loop-statement.statement-index c.statement-item.result c.loop-statement-test.true
          c.statement-item.is c.loop-statement.invariant.run c.in_ok-run_statement.ensures.ok;
      sound = c.in_ok-run_statement.ensures.sound;
      context = c.in_ok-run_statement.ensures.context ∙ c.loop-statement.invariant.context;
    }
