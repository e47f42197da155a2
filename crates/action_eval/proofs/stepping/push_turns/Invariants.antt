use Rattle.std.proofs.Common.{◌≡◌, ◌++◌, length}
use Rattle.rule_ast.specs.Seen.{seen_expr}
use Rattle.action_eval.specs.Machine.{State, turns_at}
use Rattle.action_eval.specs.SeenMachine.{seen_machine}
use Rattle.action_eval.proofs.stepping.push_turns.Given as goal

-- those that are left go on top of those that were pushed
abbrev pub invariant-loop-member : goal.invariant-loop-member
invariant-loop-member l =
    let onto : State → State = λ s. record s { tasks = turns_at l.name l.rest (seen_expr l.body) ++ s.tasks } in
    let all : State → State = λ s. record s { tasks = turns_at l.name l.initial.rest (seen_expr l.body) ++ s.tasks } in
    onto (seen_machine l.machine) ≡ all (seen_machine l.initial.machine)

abbrev pub decreases-loop-member : goal.decreases-loop-member
decreases-loop-member l = length l.rest
