use Rattle.std.proofs.Common.{arith}
use Rattle.k_best.specs.Lists.{InSpan, span_at}
use Rattle.k_best.proofs.ListLaws.{zip_from}
use Rattle.k_best.proofs.inputs.are_within.Goals as goal

pub returns-clause-yes : goal.returns-clause-yes
returns-clause-yes g c = λ e.
    let gs = ((g.M.Choices.graph c.args.moves.now).alternative c.args.goal c.args.k).inputs in
    zip_from (λ h at. InSpan (span_at c.args.lists.now.spans h) at) gs c.args.inputs.now (omega arith) (λ j jl. c.loop-i.invariant j (omega arith))
