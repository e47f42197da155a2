use Rattle.std.proofs.Common.{◌≡◌, ℕ, ◌<◌, get_or}
use Rattle.k_best.specs.Lists.{label_at}
use Rattle.k_best.proofs.same.same_labels.Given as goal

-- the labels so far are the same
abbrev pub invariant-loop-i : goal.invariant-loop-i
invariant-loop-i l = (j : ℕ) → j < l.i → label_at l.lists.labels (get_or l.left j 0) ≡ label_at l.lists.labels (get_or l.right j 0)
