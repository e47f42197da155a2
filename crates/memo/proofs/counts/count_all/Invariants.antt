use Rattle.std.proofs.Common.{◌≡◌, ◌≤◌, take}
use Rattle.memo.specs.Counts.{classes_from, lives}
use Rattle.memo.proofs.counts.count_all.Given as goal

abbrev pub invariant-loop-i : goal.invariant-loop-i
invariant-loop-i g l = record {
  classes : l.classes ≡ classes_from 0 (take l.i l.exprs);
  expressions : l.expressions ≡ lives (take l.i l.exprs);
  few : l.classes ≤ l.i;
  fewer : l.expressions ≤ l.i;
}
