use Rattle.std.proofs.Common.{◌≡◌, ◌++◌, map, length}
use Rattle.rule_ast.specs.Seen.{seen_expr, exprs_of}
use Rattle.action_eval.specs.Machine.{State, evals}
use Rattle.action_eval.specs.SeenMachine.{seen_machine}
use Rattle.action_eval.proofs.stepping.make_of.Given as goal

-- those that are left go on top of those that were pushed
abbrev pub invariant-loop-e : goal.invariant-loop-e
invariant-loop-e l =
    let onto : State → State = λ s. record s { tasks = evals (exprs_of (map seen_expr l.rest)) ++ s.tasks } in
    let all : State → State = λ s. record s { tasks = evals (exprs_of (map seen_expr l.initial.rest)) ++ s.tasks } in
    onto (seen_machine l.machine) ≡ all (seen_machine l.initial.machine)

abbrev pub decreases-loop-e : goal.decreases-loop-e
decreases-loop-e l = length l.rest
