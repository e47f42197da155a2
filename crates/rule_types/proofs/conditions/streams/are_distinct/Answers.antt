use Rattle.std.proofs.Common.{sym, ◌∙◌}
use Rattle.std.proofs.lemmas.Bool.{not-false, not-true}
use Rattle.rule_types.proofs.DistinctLaws.{Passed-more, Passed-found}
use Rattle.rule_types.proofs.conditions.streams.are_distinct.Goals as goal

pub returns-then-not-is_new : goal.returns-then-not-is_new
returns-then-not-is_new c =
    Passed-found c.loop-number.earlier c.args.numbers.now c.loop-number.number-index _ c.loop-number-test.true c.loop-number.invariant
    (not-false _ (sym c.in_ok-is_new.ensures.added ∙ c.if-not-is_new.true))

pub loop-number-preserved : goal.loop-number-preserved
loop-number-preserved c =
    Passed-more c.loop-number.earlier c.insert.new.self c.args.numbers.now c.loop-number.number-index _ c.loop-number-test.true c.loop-number.invariant
    c.in_ok-is_new.ensures.updates (not-true _ (sym c.in_ok-is_new.ensures.added ∙ c.if-not-is_new.false))
