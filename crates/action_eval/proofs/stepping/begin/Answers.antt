use Rattle.rule_ast.specs.Seen.{seen_expr}
use Rattle.action_eval.specs.Machine.{eval, turns}
use Rattle.action_eval.specs.SeenMachine.{seen_machine, seen_within}
use Rattle.action_eval.proofs.StepLaws.{on-ok, set-begun, list-begun, call-begun, fold-begun, number-done, truth-done, symbol-done, pushed-two}
use Rattle.action_eval.proofs.stepping.begin.Goals as goal

pub returns-in-SetOf : goal.returns-in-SetOf
returns-in-SetOf c =
    on-ok c.make_of.result c.make_of.ensures
    (set-begun (seen_within c.args.within.now) (seen_machine c.args.machine.now) (seen_machine c.make_of.new.machine) c.args.e.now c.in-SetOf.members c.as_slice.result.now c.in-SetOf.is c.as_slice.ensures)

pub returns-in-ListOf : goal.returns-in-ListOf
returns-in-ListOf c =
    on-ok c.make_of-in-ListOf.result c.make_of-in-ListOf.ensures
    (list-begun (seen_within c.args.within.now) (seen_machine c.args.machine.now) (seen_machine c.make_of-in-ListOf.new.machine) c.args.e.now c.in-ListOf.members c.as_slice-in-ListOf.result.now c.in-ListOf.is c.as_slice-in-ListOf.ensures)

pub returns-in-Call : goal.returns-in-Call
returns-in-Call c =
    on-ok c.make_of-in-Call.result c.make_of-in-Call.ensures
    (call-begun (seen_within c.args.within.now) (seen_machine c.args.machine.now) (seen_machine c.make_of-in-Call.new.machine) c.args.e.now c.in-Call.name c.in-Call.args c.as_slice-in-Call.result.now c.in-Call.is c.as_slice-in-Call.ensures)

pub returns-in-Number : goal.returns-in-Number
returns-in-Number c =
    on-ok c.push_value.result c.push_value.ensures (number-done (seen_within c.args.within.now) (seen_machine c.args.machine.now) (seen_machine c.push_value.new.self) c.args.e.now c.in-Number.number c.in-Number.is)

pub returns-in-Truth : goal.returns-in-Truth
returns-in-Truth c =
    on-ok c.push_value-in-Truth.result c.push_value-in-Truth.ensures (truth-done (seen_within c.args.within.now) (seen_machine c.args.machine.now) (seen_machine c.push_value-in-Truth.new.self) c.args.e.now c.in-Truth.truth c.in-Truth.is)

pub returns-in_ok-copy-in-Sym : goal.returns-in_ok-copy-in-Sym
returns-in_ok-copy-in-Sym c =
    on-ok c.push_value-in-Sym.result c.push_value-in-Sym.ensures
    (symbol-done (seen_within c.args.within.now) (seen_machine c.args.machine.now) (seen_machine c.push_value-in-Sym.new.self) c.args.e.now c.in-Sym.symbol c.in_ok-copy-in-Sym.field-0 c.in-Sym.is c.in_ok-copy-in-Sym.ensures)

pub returns-in_ok-push_task-in-Fold : goal.returns-in_ok-push_task-in-Fold
returns-in_ok-push_task-in-Fold c =
    let s = seen_machine c.args.machine.now in
    let s' = seen_machine c.push_task-in-Fold-2.new.self in
    let first = c.get-in-Fold-2.result.now in
    let inner = c.get-in-Fold.result.now in
    on-ok c.push_task-in-Fold-2.result c.push_task-in-Fold-2.ensures
    (λ same.
    fold-begun (seen_within c.args.within.now) s s' c.args.e.now c.in-Fold.over c.in-Fold.body first inner c.in-Fold.fold c.in-Fold.name c.in-Fold.is c.get-in-Fold-2.ensures c.get-in-Fold.ensures
    (pushed-two s (seen_machine c.push_task-in-Fold.new.self) s' (eval (seen_expr first)) (turns c.in-Fold.fold c.in-Fold.name (seen_expr inner)) c.in_ok-push_task-in-Fold.ensures same))
