use Rattle.std.proofs.Common.{◌≤◌, length}
use Rattle.derivation.specs.Marks.{IsMarking}
use Rattle.derivation.proofs.slice.mark_needed.Given as goal

abbrev pub invariant-loop-i : goal.invariant-loop-i
invariant-loop-i l = (l.i ≤ length l.lines) × IsMarking l.lines l.given l.marks l.i

abbrev pub decreases-loop-i : goal.decreases-loop-i
decreases-loop-i l = l.i
