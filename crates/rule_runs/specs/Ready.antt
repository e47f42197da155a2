-- Environments in which a rule's statements can run.
use Rattle.std.specs.Prelude.{◌≡◌, List}
use Rattle.pr_value.specs.Symbols.{Symbol}
use Rattle.action_eval.specs.Environments.{Env, IsSound, names_bound}
use Rattle.rule_ast.specs.Syntax.{Rules}

-- a sound environment of the rules, with descriptors of these names
pub record IsReady (r : Rules) (names : List Symbol) (env : Env) : Type 0 where
  pub sound : IsSound env
  pub rules : env.rules ≡ r
  pub bound : names_bound env.descs ≡ names
