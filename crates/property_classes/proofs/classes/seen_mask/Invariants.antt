use Rattle.std.proofs.Common.{◌≡◌, map, take}
use Rattle.property_classes.specs.Classes.{is_seen}
use Rattle.property_classes.proofs.classes.seen_mask.Given as goal

-- those of the classes so far
abbrev pub invariant-loop-class : goal.invariant-loop-class
invariant-loop-class l =
    l.mask ≡ map is_seen (take l.class-index l.classes)
