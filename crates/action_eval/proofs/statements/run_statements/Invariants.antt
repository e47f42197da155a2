use Rattle.std.proofs.Common.{◌≡◌, map, take}
use Rattle.rule_ast.specs.Seen.{seen_stmt}
use Rattle.action_eval.specs.Environments.{IsSound, after, context_of}
use Rattle.action_eval.specs.SeenEnv.{seen_env}
use Rattle.action_eval.proofs.statements.run_statements.Given as goal

-- those so far have been run
abbrev pub invariant-loop-statement : goal.invariant-loop-statement
invariant-loop-statement l = record {
  run : seen_env l.env ≡ after (seen_env l.initial.env) l.catalog (map seen_stmt (take l.statement-index l.statements));
  sound : IsSound (seen_env l.env);
  context : context_of (seen_env l.env) ≡ context_of (seen_env l.initial.env);
}
