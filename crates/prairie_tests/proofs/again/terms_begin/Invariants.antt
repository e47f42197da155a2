use Rattle.std.proofs.Common.{◌≡◌, ◌≤◌, length, take}
use Rattle.prairie_tests.proofs.again.terms_begin.Given as goal

abbrev pub invariant-loop-i : goal.invariant-loop-i
invariant-loop-i l = record {
  fits : length l.first ≤ length l.terms;
  same : take l.i l.terms ≡ take l.i l.first;
}
