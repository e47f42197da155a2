use Rattle.std.proofs.Common.{◌≡◌, take}
use Rattle.descriptor_types.specs.Descriptors.{asked_of}
use Rattle.descriptor_types.proofs.desc.Desc.ask.Given as goal

abbrev pub invariant-loop-p : goal.invariant-loop-p
invariant-loop-p l = l.values.items ≡ take l.p (asked_of l.physical l.wanted l.self)
