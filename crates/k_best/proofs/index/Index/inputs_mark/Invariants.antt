use Rattle.std.proofs.Common.{◌≡◌, ◌≤◌, length, map, drop}
use Rattle.k_best.specs.Indexes.{mark_at, mix_all}
use Rattle.k_best.proofs.index.Index.inputs_mark.Given as goal

abbrev pub invariant-loop-i : goal.invariant-loop-i
invariant-loop-i l = record {
  within : l.i ≤ length l.inputs;
  mark : l.mark ≡ mix_all (map (mark_at l.self.marks) (drop l.i l.inputs));
}

abbrev pub decreases-loop-i : goal.decreases-loop-i
decreases-loop-i l = l.i
