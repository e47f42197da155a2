use Rattle.std.proofs.Common.{◌≡◌, Some}
use Rattle.serde_json.specs.View.{view}
use Rattle.value_json.proofs.EachLaws.{AllZip-more}
use Rattle.value_json.proofs.items.items_of.Goals as goal

pub loop-item-preserved : goal.loop-item-preserved
loop-item-preserved g c =
    rw c.in_ok-push.ensures.items
    (AllZip-more (λ v x. g.T.FromItem.said (view v) ≡ Some x) c.args.items.now c.loop-item.read.items c.loop-item.item-index c.item-item.result c.in_ok-from_item.field-0 c.loop-item-test.true c.item-item.is c.loop-item.invariant c.in_ok-from_item.ensures)
