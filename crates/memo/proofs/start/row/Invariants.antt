use Rattle.std.proofs.Common.{◌≡◌, ℕ, Some, slice_get, length}
use Rattle.memo.proofs.start.row.Given as goal

abbrev pub invariant-loop : goal.invariant-loop
invariant-loop l = record {
  long : length l.own.items ≡ l.counter;
  none : (n i : ℕ) → slice_get l.own.items n ≡ Some (Some i) → ⊥;
}
