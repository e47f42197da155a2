use Rattle.std.proofs.Common.{◌≡◌, [], take}
use Rattle.std.specs.List.{zip}
use Rattle.action_eval.specs.Environments.{bound_all}
use Rattle.action_eval.specs.SeenEnv.{seen_env}
use Rattle.rule_runs.specs.Runs.{env_over}
use Rattle.rule_ast.specs.SeenRules.{seen_rules}
use Rattle.rule_runs.proofs.scopes.env_over.Given as goal

-- those so far are bound
abbrev pub invariant-loop-i : goal.invariant-loop-i
invariant-loop-i l =
    seen_env l.env ≡ env_over (seen_rules l.rules) (bound_all (take l.i (zip l.names l.descs)) [])
