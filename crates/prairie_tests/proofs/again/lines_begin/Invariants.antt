use Rattle.std.proofs.Common.{◌≡◌, ◌≤◌, length, take}
use Rattle.prairie_tests.proofs.again.lines_begin.Given as goal

abbrev pub invariant-loop-i : goal.invariant-loop-i
invariant-loop-i l = record {
  fits : length l.first.lines ≤ length l.log.lines;
  same : take l.i l.log.lines ≡ take l.i l.first.lines;
}
