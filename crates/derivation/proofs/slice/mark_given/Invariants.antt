use Rattle.std.proofs.Common.{◌≡◌, take}
use Rattle.derivation.specs.Marks.{marked}
use Rattle.derivation.proofs.slice.mark_given.Given as goal

abbrev pub invariant-loop-n : goal.invariant-loop-n
invariant-loop-n l = l.marks ≡ marked l.initial.marks (take l.n-index l.given)
