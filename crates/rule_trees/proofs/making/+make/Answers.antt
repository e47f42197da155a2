use Rattle.std.proofs.Common.{rules, ℕ, ◌+◌, List, [], ◌∷◌, ◌++◌, length, map, ap, sym, ◌∙◌, subst}
use Rattle.std.proofs.lemmas.List.{map-append}
use Rattle.descriptor_types.specs.Descriptors.{Desc}
use Rattle.descriptor_types.specs.Labels.{Label, file, operator, seen_tree}
use Rattle.pr_value.specs.Trees.{Tree, tree}
use Rattle.rule_runs.proofs.FindLaws.{seen-at}
use Rattle.rule_runs.proofs.MakeLaws.{GoesOn, goes-next, suffice-first, suffice-rest}
use Rattle.rule_runs.proofs.SideLaws.{seen-Stream}
use Rattle.rule_runs.specs.SeenSides.{seen_side}
use Rattle.rule_runs.specs.declared.sides.Side.{the_lemmas}
use Rattle.rule_trees.proofs.MadeLaws.{stream-made, stream-within}
use Rattle.rule_trees.proofs.making.+make.Goals as goal

abbrev over : ℕ → Desc → List (Tree Label) → Tree Label
over op d ts = tree (operator op d) ts

abbrev nothing : Tree Label
nothing = tree (file [] []) []

pub make-returns-in_ok-tree-in-Stream : goal.make-returns-in_ok-tree-in-Stream
make-returns-in_ok-tree-in-Stream t c =
    let is = ap seen_side c.in-Stream.is ∙ seen-Stream c.in-Stream.place in
    stream-made c.args.streams.now (seen_side c.args.side.now) c.in-Stream.place c.index-streams-place.result c.in_ok-tree-in-Stream.tree c.args.descs.now is
    (stream-within (length c.args.streams.now) (seen_side c.args.side.now) c.in-Stream.place is c.requires.within) c.index-streams-place.is c.in_ok-tree-in-Stream.ensures

pub make_all-make-requires : goal.make_all-make-requires
make_all-make-requires t c =
    let ts = map (λ t'. seen_tree t'.now) c.args.streams.now in
    let sides = seen-at seen_side c.args.sides.now c.loop-side.side-index c.side-item.result c.loop-side-test.true c.side-item.is in (
      search (rules, the_lemmas),
      suffice-first over nothing ts (length c.args.streams.now) (length c.loop-side.rest.now) c.loop-side.side-index (map seen_side c.args.sides.now) (seen_side c.side-item.result) sides c.loop-side.invariant.enough,
    )

pub make_all-loop-side-preserved : goal.make_all-loop-side-preserved
make_all-loop-side-preserved t c =
    let ts = map (λ t'. seen_tree t'.now) c.args.streams.now in
    let ss = map seen_side c.args.sides.now in
    let i = c.loop-side.side-index in
    let sides = seen-at seen_side c.args.sides.now i c.side-item.result c.loop-side-test.true c.side-item.is in
    let done = map seen_tree c.loop-side.trees in
    let all = ap (map seen_tree) c.in_ok-push.ensures.ok ∙ map-append seen_tree c.loop-side.trees (c.in_ok-tree.tree ∷ []) in
    record {
      goes =
          subst (λ (xs : List (Tree Label)). GoesOn over nothing ts ss c.args.descs.now (i + 1) xs c.in_ok-tree.left.now) (sym all)
          (goes-next over nothing ts ss c.args.descs.now c.loop-side.rest.now c.in_ok-tree.left.now i (seen_side c.side-item.result) done (seen_tree c.in_ok-tree.tree) sides c.in_ok-tree.ensures c.loop-side.invariant.goes);
      enough = suffice-rest over nothing ts (length c.args.streams.now) i ss (seen_side c.side-item.result) c.loop-side.rest.now c.in_ok-tree.left.now (seen_tree c.in_ok-tree.tree) sides c.in_ok-tree.ensures c.loop-side.invariant.enough;
    }
