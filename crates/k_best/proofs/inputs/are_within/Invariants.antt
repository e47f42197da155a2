use Rattle.std.proofs.Common.{ℕ, ◌<◌, get_or}
use Rattle.k_best.specs.Lists.{InSpan, span_at}
use Rattle.k_best.proofs.inputs.are_within.Given as goal

-- the places so far are each one of its goal's list
abbrev pub invariant-loop-i : goal.invariant-loop-i
invariant-loop-i g l =
    let gs = ((g.M.Choices.graph l.moves).alternative l.goal l.k).inputs in
    (j : ℕ) → j < l.i → InSpan (span_at l.lists.spans (get_or gs j 0)) (get_or l.inputs j 0)
