use Rattle.std.proofs.Common.{◌≡◌, drop}
use Rattle.query_build.specs.Refusals.{first_setting, is_wrong_setting}
use Rattle.rule_ast.specs.SeenRules.{seen_rules}
use Rattle.query_build.proofs.conditions.first_wrong.Given as goal

-- the rest decides
abbrev pub invariant-loop-setting : goal.invariant-loop-setting
invariant-loop-setting l =
    first_setting (is_wrong_setting (seen_rules l.rules)) (drop l.setting-index l.settings)
    ≡ first_setting (is_wrong_setting (seen_rules l.rules)) l.settings
