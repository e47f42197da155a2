use Rattle.std.proofs.Common.{true, cond, get_or, ap, sym, ◌∙◌}
use Rattle.std.specs.Prelude.{◌==◌}
use Rattle.rule_types.proofs.NumberLaws.{has_number-more}
use Rattle.rule_types.proofs.numbers.set_of.Goals as goal

pub loop-number-preserved : goal.loop-number-preserved
loop-number-preserved c = λ n.
    let ns = c.args.numbers.now in
    let i = c.loop-number.number-index in
    c.in_ok-put.ensures n ∙ ap (λ b. cond (n == get_or ns i 0) true b) (c.loop-number.invariant n) ∙ sym (has_number-more ns i 0 n c.loop-number-test.true)
