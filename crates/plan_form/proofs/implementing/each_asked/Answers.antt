use Rattle.std.proofs.Common.{◌∷◌, [], map, ap, ◌∙◌, arith}
use Rattle.std.proofs.lemmas.List.{length-map, map-append}
use Rattle.descriptor_types.specs.Labels.{seen_tree}
use Rattle.plan_form.proofs.AskedLaws.{asked_all, asked_more, seen-at}
use Rattle.plan_form.proofs.PairLaws.{read-at}
use Rattle.plan_form.proofs.implementing.each_asked.Goals as goal

pub loop-place-preserved : goal.loop-place-preserved
loop-place-preserved c =
    let trees = c.args.trees.now in
    let i = c.loop-place.place in
    ap (map seen_tree) c.in_ok-push.ensures.items ∙ (map-append seen_tree c.loop-place.made.items (c.in_ok-tree.tree ∷ [])
    ∙ asked_more c.args.physical.now c.args.asked.now (map seen_tree trees) (map seen_tree c.loop-place.made.items) i c.index-asked-place.result (seen_tree c.index-trees-place.result) (seen_tree c.in_ok-tree.tree)
    (read-at c.args.asked.now i c.index-asked-place.result (omega (arith, c.loop-place-test.true, c.min-places.ensures)) c.index-asked-place.is)
    (seen-at seen_tree trees i c.index-trees-place.result (read-at trees i c.index-trees-place.result (omega (arith, c.loop-place-test.true, c.min-places.ensures)) c.index-trees-place.is))
    c.loop-place.invariant c.in_ok-tree.ensures)

pub returns : goal.returns
returns c =
    asked_all c.args.physical.now c.args.asked.now (map seen_tree c.args.trees.now) (map seen_tree c.loop-place.made.items) c.loop-place.place
    (omega (arith, c.loop-place-test.false, c.min-places.ensures, length-map c.args.trees.now seen_tree)) c.loop-place.invariant
