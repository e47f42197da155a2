use Rattle.std.proofs.Common.{◌≡◌, map, take}
use Rattle.action_eval.specs.Meaning.{desc_in}
use Rattle.action_eval.specs.SeenEnv.{seen_env}
use Rattle.descriptor_types.specs.Descriptors.{only}
use Rattle.rule_ast.specs.SeenRules.{seen_rules}
use Rattle.rule_runs.proofs.irules.asked_of_inputs.Given as goal

-- the physical parts of those so far
abbrev pub invariant-loop-input : goal.invariant-loop-input
invariant-loop-input l =
    l.asked ≡ map (λ i. only (seen_rules l.running.rules.now).properties l.physical (desc_in (seen_env l.env).descs i.desc)) (take l.input-index l.input-items)
