use Rattle.std.proofs.Common.{List, ap, ◌∙◌}
use Rattle.pr_value.specs.declared.value.Value.{Value}
use Rattle.rule_ast.specs.Typing.{builtin_of}
use Rattle.action_eval.specs.Builtins.{builtin_value}
use Rattle.action_eval.specs.SeenMachine.{seen_machine, seen_within}
use Rattle.action_eval.proofs.StepLaws.{on-ok, builtin-called, helper-called}
use Rattle.action_eval.proofs.stepping.call.Goals as goal

pub returns-in_ok-value-in-Some : goal.returns-in_ok-value-in-Some
returns-in_ok-value-in-Some c =
    on-ok c.push_value.result c.push_value.ensures
    (builtin-called (seen_within c.args.within.now) (seen_machine c.args.machine.now) (seen_machine c.push_value.new.self) c.args.name.now c.args.args.items c.in-Some.function c.in_ok-value-in-Some.value
    (c.in-Some.ensures ∙ ap builtin_of c.as_slice.ensures.same) (c.in_ok-value-in-Some.ensures ∙ ap (λ (vs : List Value). builtin_value c.args.within.now.catalog.now c.in-Some.function vs) c.as_slice-in-Some.ensures.value))

pub returns-in-None : goal.returns-in-None
returns-in-None c =
    on-ok c.call_helper.result c.call_helper.ensures
    (helper-called (seen_within c.args.within.now) (seen_machine c.args.machine.now) (seen_machine c.call_helper.new.machine) c.args.name.now c.args.args.items (c.in-None.ensures ∙ ap builtin_of c.as_slice.ensures.same))
