use Rattle.std.proofs.Common.{sym, ◌∙◌}
use Rattle.std.specs.Cmp.Lexicographic.{pointwise_decides, bytes_decides}
use Rattle.pr_value.proofs.symbols.same_symbols.Goals as goal

pub returns-clause-equal : goal.returns-clause-equal
returns-clause-equal c =
    let decides = pointwise_decides bytes_decides c.args.a.now c.args.b.now in
    (λ is. decides.0 (sym c.eq.ensures ∙ is), λ same. c.eq.ensures ∙ decides.1 same)
