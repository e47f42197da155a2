use Rattle.std.proofs.Common.{sym, ◌∙◌, arith}
use Rattle.k_best.specs.Lists.{label_at}
use Rattle.k_best.proofs.ListLaws.{map_at, map_from}
use Rattle.k_best.proofs.same.same_labels.Goals as goal

pub returns-then-label-clause-no : goal.returns-then-label-clause-no
returns-then-label-clause-no c = λ e same.
    c.if-label.true (c.label.ensures ∙ map_at (label_at c.args.lists.now.labels) c.args.left.now c.args.right.now c.loop-i.i same (omega arith) ∙ sym c.label-in-loop-i.ensures)

pub returns-clause-yes : goal.returns-clause-yes
returns-clause-yes c = λ e. map_from (label_at c.args.lists.now.labels) c.args.left.now c.args.right.now (omega arith) (λ j jl. c.loop-i.invariant j (omega (arith, jl)))
