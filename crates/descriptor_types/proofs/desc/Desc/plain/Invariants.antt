use Rattle.std.proofs.Common.{◌≡◌, take}
use Rattle.descriptor_types.specs.Descriptors.{plain}
use Rattle.descriptor_types.proofs.desc.Desc.plain.Given as goal

abbrev pub invariant-loop-property : goal.invariant-loop-property
invariant-loop-property l = l.values.items ≡ plain (take l.property-index l.property-items)
