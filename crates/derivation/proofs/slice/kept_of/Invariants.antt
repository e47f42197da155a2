use Rattle.std.proofs.Common.{◌≡◌, ◌++◌, drop}
use Rattle.derivation.specs.Marks.{kept_lines}
use Rattle.derivation.proofs.slice.kept_of.Given as goal

abbrev pub invariant-loop-i : goal.invariant-loop-i
invariant-loop-i l = l.out.items ++ kept_lines l.places (drop l.i l.marks) (drop l.i l.lines) ≡ kept_lines l.places l.marks l.lines
