use Rattle.std.proofs.Common.{◌≡◌, map, take}
use Rattle.k_best.specs.Lists.{span_at}
use Rattle.k_best.proofs.inputs.starts.Given as goal

abbrev pub invariant-loop-i : goal.invariant-loop-i
invariant-loop-i g l =
    let gs = ((g.M.Choices.graph l.moves).alternative l.goal l.k).inputs in
    l.starts ≡ map (λ h. (span_at l.lists.spans h).start) (take l.i gs)
