use Rattle.std.proofs.Common.{List, reverse, ap, ◌∙◌, arith}
use Rattle.pr_value.specs.declared.value.Value.{Value}
use Rattle.action_eval.specs.SeenMachine.{seen_machine}
use Rattle.action_eval.proofs.MachineLaws.{split-behind}
use Rattle.action_eval.proofs.machine.Machine.take.Goals as goal

pub returns-clause-taken : goal.returns-clause-taken
returns-clause-taken c =
    let split = split-behind c.args.self.now.values.items c.args.count c.saturating_sub-front.result (omega (arith, c.saturating_sub-front.ensures, c.len.ensures)) in
    c.in_ok-taken.ensures.tail ∙ split.0

pub returns-clause-left : goal.returns-clause-left
returns-clause-left c =
    let split = split-behind c.args.self.now.values.items c.args.count c.saturating_sub-front.result (omega (arith, c.saturating_sub-front.ensures, c.len.ensures)) in
    ap (λ (vs : List Value). record (seen_machine c.args.self.now) { values = vs }) (ap reverse c.in_ok-taken.ensures.items ∙ split.1)
