use Rattle.std.proofs.Common.{◌≡◌, ◌++◌, drop}
use Rattle.memo.specs.Merge.{ups_of}
use Rattle.memo.proofs.merge.ups.Given as goal

abbrev pub invariant-loop-e : goal.invariant-loop-e
invariant-loop-e g l = l.out.items ++ ups_of (drop l.e-index l.exprs) ≡ ups_of l.exprs
