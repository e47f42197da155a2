use Rattle.std.proofs.Common.{take}
use Rattle.std.specs.List.{AllZip}
use Rattle.memo.specs.Rebuild.{IsRootClass}
use Rattle.memo.proofs.rebuild.roots_of.Given as goal

abbrev pub invariant-loop-c : goal.invariant-loop-c
invariant-loop-c g l = AllZip (IsRootClass l.exprs) (take l.c-index l.classes) l.out.items
