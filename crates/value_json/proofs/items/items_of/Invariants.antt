use Rattle.std.proofs.Common.{◌≡◌, Some, take}
use Rattle.std.specs.List.{AllZip}
use Rattle.serde_json.specs.View.{view}
use Rattle.value_json.proofs.items.items_of.Given as goal

-- those so far
abbrev pub invariant-loop-item : goal.invariant-loop-item
invariant-loop-item g l = AllZip (λ v x. g.T.FromItem.said (view v) ≡ Some x) (take l.item-index l.items) l.read.items
