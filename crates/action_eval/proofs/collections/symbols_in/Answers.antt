use Rattle.std.proofs.Common.{ap, ◌∙◌}
use Rattle.pr_value.specs.Values.{symbol_in}
use Rattle.action_eval.proofs.FoldLaws.{symbols-more}
use Rattle.action_eval.proofs.collections.symbols_in.Goals as goal

pub loop-value-preserved : goal.loop-value-preserved
loop-value-preserved c =
    symbols-more c.args.values.now c.loop-value.value-index c.value-item.result c.in_ok-symbol_in.field-0 c.loop-value.symbols.items c.push.new.self.items c.loop-value-test.true c.value-item.is (c.in_ok-symbol_in.ensures ∙ ap symbol_in c.get.ensures)
    c.loop-value.invariant c.in_ok-push.ensures.items
