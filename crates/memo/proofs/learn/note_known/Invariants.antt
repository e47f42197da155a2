use Rattle.std.proofs.Common.{◌≡◌, ◌-◌, ◌+◌, ℕ, Some, length, slice_get}
use Rattle.memo.specs.declared.expr.Known.{Known}
use Rattle.memo.proofs.learn.note_known.Given as goal

abbrev pub invariant-loop-known : goal.invariant-loop-known
invariant-loop-known l = record {
  kept : (m : ℕ) (k : Known) → slice_get l.fn.known.items m ≡ Some (Some k) → slice_get l.known.items m ≡ Some (Some k);
  back : (m : ℕ) (k : Known) → slice_get l.known.items m ≡ Some (Some k) → slice_get l.fn.known.items m ≡ Some (Some k);
}

abbrev pub decreases-loop-known : goal.decreases-loop-known
decreases-loop-known l = (l.n + 1) - length l.known.items
