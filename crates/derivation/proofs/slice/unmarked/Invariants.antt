use Rattle.std.proofs.Common.{◌≡◌, ℕ, Bool, Some, false, length, slice_get}
use Rattle.derivation.proofs.slice.unmarked.Given as goal

abbrev pub invariant-loop : goal.invariant-loop
invariant-loop l = (length l.marks.items ≡ l.counter) × ((i : ℕ) (b : Bool) → slice_get l.marks.items i ≡ Some b → b ≡ false)
