use Rattle.std.proofs.Common.{ℕ, ◌+◌, ◌-◌, ◌<◌, ◌≤◌}
use Rattle.pr_value.proofs.halves.bisect.Given as goal

abbrev pub invariant-loop-low : goal.invariant-loop-low
invariant-loop-low g l = record {
  from : l.lo ≤ l.low;
  between : l.low ≤ l.high;
  to : l.high ≤ l.hi + 1;
  below : (x a : ℕ) → l.lo ≤ x → x < l.low → goal.P-post g l.f x a → a < l.limit;
  reached : l.high ≤ l.hi → (a : ℕ) × goal.P-post g l.f l.high a × (l.limit ≤ a);
}

abbrev pub decreases-loop-low : goal.decreases-loop-low
decreases-loop-low g l = l.high - l.low
