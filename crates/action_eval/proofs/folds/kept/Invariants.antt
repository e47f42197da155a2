use Rattle.std.proofs.Common.{◌≡◌, take}
use Rattle.action_eval.specs.Folds.{kept_of}
use Rattle.action_eval.proofs.folds.kept.Given as goal

abbrev pub invariant-loop-i : goal.invariant-loop-i
invariant-loop-i l = l.kept.items ≡ kept_of (take l.i l.members) l.values
