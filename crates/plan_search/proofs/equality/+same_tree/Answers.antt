use Rattle.std.proofs.Common.{ap, sym, ◌∙◌, map, arith}
use Rattle.std.proofs.lemmas.Bool.{false≢true}
use Rattle.descriptor_types.specs.Labels.{seen_tree}
use Rattle.plan_search.proofs.EqualityLaws.{below-node, same-at, same-node}
use Rattle.plan_search.proofs.equality.+same_tree.Goals as goal

pub same_trees-returns-then-not-same_tree : goal.same_trees-returns-then-not-same_tree
same_trees-returns-then-not-same_tree t c = (
  λ h. absurd (false≢true h),
  λ same.
      sym c.if-not-same_tree.true
      ∙ c.same_tree.ensures.1 (same-at c.args.ts.now c.args.others.now c.loop-i.i c.index-ts-i.result c.index-others-i.result (omega (arith, c.loop-i-test.true, c.loop-i.auto)) (omega (arith, c.loop-i-test.true, c.loop-i.auto, c.if-ts-others.false)) c.index-ts-i.is c.index-others-i.is same),
)

pub same_tree-returns-else-not-same : goal.same_tree-returns-else-not-same
same_tree-returns-else-not-same t c =
    let node = c.in-Node-Node in (
      λ h.
          ap seen_tree node.is-0
          ∙ (same-node node.op node.other_op node.desc node.other_desc node.inputs node.other_inputs c.if-op-other_op.false (c.same-else-op-other_op.ensures.equal.0 c.if-not-same.false)
          (ap (map seen_tree) (sym c.as_slice.ensures) ∙ (c.same_trees.ensures.0 h ∙ ap (map seen_tree) c.as_slice-in-Node-Node.ensures))
          ∙ sym (ap seen_tree node.is-1)),
      λ same.
          c.same_trees.ensures.1
          (ap (map seen_tree) c.as_slice.ensures
          ∙ (below-node node.op node.other_op node.desc node.other_desc node.inputs node.other_inputs (sym (ap seen_tree node.is-0) ∙ (same ∙ ap seen_tree node.is-1))
          ∙ ap (map seen_tree) (sym c.as_slice-in-Node-Node.ensures))),
    )
