use Rattle.memo.specs.Merge.{IsPlaced}
use Rattle.memo.proofs.merge.write_back.Given as goal

abbrev pub invariant-loop-i : goal.invariant-loop-i
invariant-loop-i g l = IsPlaced l.ups l.fn.exprs l.exprs l.i
