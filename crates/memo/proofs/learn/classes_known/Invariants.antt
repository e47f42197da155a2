use Rattle.std.proofs.Common.{take}
use Rattle.memo.specs.Learn.{AreKnownIn}
use Rattle.memo.proofs.learn.classes_known.Given as goal

abbrev pub invariant-loop-n : goal.invariant-loop-n
invariant-loop-n g l = AreKnownIn l.exprs l.known (take l.n-index l.terms) l.out.items
