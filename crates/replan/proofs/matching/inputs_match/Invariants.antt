use Rattle.std.proofs.Common.{◌≡◌, ℕ, ◌<◌, Some, slice_get}
use Rattle.replan.specs.Carried.{KeptAs, flagged}
use Rattle.replan.proofs.matching.inputs_match.Given as goal

abbrev pub invariant-loop-i : goal.invariant-loop-i
invariant-loop-i g l = (n x y : ℕ) → n < l.i → slice_get ((g.M.Choices.graph l.new).alternative l.goal l.k).inputs n ≡ Some x
    → slice_get ((g.M.Choices.graph l.old).alternative l.was l.k).inputs n ≡ Some y → KeptAs (flagged l.kept) l.places x y
