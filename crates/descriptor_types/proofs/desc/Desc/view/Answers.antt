use Rattle.std.proofs.Common.{arith, ◌∙◌}
use Rattle.descriptor_types.proofs.StepLaws.{take-only}
use Rattle.descriptor_types.proofs.desc.Desc.view.Goals as goal

pub returns : goal.returns
returns c =
    c.loop-p.invariant
    ∙ take-only c.args.layout.now c.args.seen.now c.args.self.now c.least-places.result c.loop-p.p
    (λ k one two three. c.least-places.ensures.one k (omega (arith, one)) (omega (arith, two)) (omega (arith, three))) (omega arith)
