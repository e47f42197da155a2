use Rattle.std.proofs.Common.{◌≡◌, take}
use Rattle.descriptor_types.specs.Descriptors.{only}
use Rattle.descriptor_types.proofs.desc.Desc.view.Given as goal

abbrev pub invariant-loop-p : goal.invariant-loop-p
invariant-loop-p l = l.values.items ≡ take l.p (only l.layout l.seen l.self)
