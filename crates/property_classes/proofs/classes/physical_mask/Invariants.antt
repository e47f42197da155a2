use Rattle.std.proofs.Common.{◌≡◌, map, take}
use Rattle.property_classes.specs.Classes.{is_physical}
use Rattle.property_classes.proofs.classes.physical_mask.Given as goal

-- those of the classes so far
abbrev pub invariant-loop-class : goal.invariant-loop-class
invariant-loop-class l =
    l.mask ≡ map is_physical (take l.class-index l.classes)
