use Rattle.std.proofs.Common.{◌≡◌, take}
use Rattle.descriptor_types.proofs.layout.Layout.of.Given as goal

abbrev pub invariant-loop-property : goal.invariant-loop-property
invariant-loop-property l = l.copies.items ≡ take l.property-index l.properties
