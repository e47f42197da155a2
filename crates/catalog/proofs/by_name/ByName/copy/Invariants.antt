use Rattle.std.proofs.Common.{◌≡◌, take}
use Rattle.catalog.proofs.by_name.ByName.copy.Given as goal

abbrev pub invariant-loop-item : goal.invariant-loop-item
invariant-loop-item g l = l.items.items ≡ take l.item-index l.item-items
