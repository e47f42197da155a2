use Rattle.std.proofs.Common.{◌≡◌, ◌++◌, take}
use Rattle.rule_runs.proofs.slots.push_copies.Given as goal

abbrev pub invariant-loop-desc : goal.invariant-loop-desc
invariant-loop-desc l = l.out ≡ l.initial.out ++ take l.desc-index l.descs
