use Rattle.action_eval.specs.SeenEnv.{seen_env}
use Rattle.rule_runs.proofs.RunLaws.{none-described}
use Rattle.rule_runs.proofs.scopes.desc_of.Goals as goal

pub returns-in-None : goal.returns-in-None
returns-in-None c = none-described c.plain-in-None.result c.new.result (seen_env c.args.env.now).descs c.args.name.now c.new.ensures c.in-None.ensures.none c.plain-in-None.ensures
