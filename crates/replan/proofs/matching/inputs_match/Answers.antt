use Rattle.std.proofs.Common.{arith, ◌∙◌}
use Rattle.replan.specs.Carried.{KeptAs, flagged}
use Rattle.replan.proofs.MatchLaws.{pairs_more, zip_of}
use Rattle.replan.proofs.matching.inputs_match.Goals as goal

pub loop-i-preserved : goal.loop-i-preserved
loop-i-preserved g c =
    pairs_more (KeptAs (flagged c.args.kept.now) c.args.places.now) ((g.M.Choices.graph c.args.new.now).alternative c.args.goal c.args.k).inputs ((g.M.Choices.graph c.args.old.now).alternative c.args.was c.args.k).inputs
    c.loop-i.i c.input-input.result c.input.result c.input-input.ensures c.input.ensures (c.is_kept_as.ensures.yes c.if-not-is_kept_as.false) c.loop-i.invariant

pub returns-clause-yes : goal.returns-clause-yes
returns-clause-yes g c = λ e.
    zip_of (KeptAs (flagged c.args.kept.now) c.args.places.now) ((g.M.Choices.graph c.args.new.now).alternative c.args.goal c.args.k).inputs ((g.M.Choices.graph c.args.old.now).alternative c.args.was c.args.k).inputs
    c.input_count-n.result c.input_count-n.ensures (c.if-n-input_count.false ∙ c.input_count.ensures)
    (λ i x y l. c.loop-i.invariant i x y (omega (arith, l, c.loop-i-test.false)))
