use Rattle.std.proofs.Common.{arith, ◌∙◌}
use Rattle.descriptor_types.proofs.StepLaws.{take-asked_of}
use Rattle.descriptor_types.proofs.desc.Desc.ask.Goals as goal

pub returns : goal.returns
returns c =
    c.loop-p.invariant
    ∙ take-asked_of c.args.physical.now c.args.wanted.now c.args.self.now c.least-places.result c.loop-p.p
    (λ k one two three. c.least-places.ensures.one k (omega (arith, one)) (omega (arith, two)) (omega (arith, three))) (omega arith)
