use Rattle.std.proofs.Common.{◌≡◌, ◌≤◌, ◌++◌, drop}
use Rattle.derivation.specs.Marks.{places_from}
use Rattle.derivation.proofs.slice.places_of.Given as goal

abbrev pub invariant-loop-m : goal.invariant-loop-m
invariant-loop-m l = (l.count ≤ l.m-index) × (l.places.items ++ places_from l.count (drop l.m-index l.marks) ≡ places_from 0 l.marks)
