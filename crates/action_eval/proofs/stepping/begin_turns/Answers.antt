use Rattle.std.proofs.Common.{◌+◌, List, length, reverse, ap, ◌∙◌, arith}
use Rattle.pr_value.specs.Symbols.{Symbol}
use Rattle.pr_value.specs.Values.{members_in}
use Rattle.pr_value.specs.declared.value.Value.{Value}
use Rattle.rule_ast.specs.Seen.{seen_expr}
use Rattle.action_eval.specs.Builtins.{at}
use Rattle.action_eval.specs.SeenMachine.{seen_machine}
use Rattle.action_eval.proofs.StepLaws.{on-ok, turns-begun, turns-pushed}
use Rattle.action_eval.proofs.stepping.begin_turns.Goals as goal

pub returns : goal.returns
returns c =
    λ w.
    let s = seen_machine c.args.machine.now in
    let e = seen_expr c.args.body.now in
    let members = c.in_ok-members.members.items in
    let long = ap (λ (ms : List Symbol). length ms) c.as_slice-2.ensures.value in
    on-ok c.push_turns.result c.push_turns.ensures
    (λ same.
    turns-begun w s (seen_machine c.push_turns.new.machine) c.args.fold c.args.name.now e members (c.len.result + 1)
    (c.in_ok-members.ensures ∙ ap (λ (vs : List Value). members_in (at (reverse vs) 0)) c.as_slice.ensures.value)
    (omega (arith, c.len.ensures, c.as_slice-2.ensures.len, long))
    (turns-pushed s (seen_machine c.push_task.new.self) (seen_machine c.push_turns.new.machine) c.args.name.now e members c.as_slice-2.result.now c.args.fold (c.len.result + 1) c.as_slice-2.ensures.value c.in_ok-push_task.ensures same))
