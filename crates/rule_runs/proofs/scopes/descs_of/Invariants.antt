use Rattle.std.proofs.Common.{◌≡◌, map, take}
use Rattle.action_eval.specs.Meaning.{desc_in}
use Rattle.action_eval.specs.SeenEnv.{seen_env}
use Rattle.rule_runs.proofs.scopes.descs_of.Given as goal

abbrev pub invariant-loop-name : goal.invariant-loop-name
invariant-loop-name l = l.descs ≡ map (desc_in (seen_env l.env).descs) (take l.name-index l.names)
