use Rattle.std.proofs.Common.{◌≡◌, ◌++◌, map, take}
use Rattle.descriptor_types.specs.Labels.{view, seen_tree}
use Rattle.descriptor_types.proofs.tree.push_views.Given as goal

abbrev pub invariant-loop-tree : goal.invariant-loop-tree
invariant-loop-tree l = l.out ≡ l.initial.out ++ map (λ t. view l.layout l.seen (seen_tree t)) (take l.tree-index l.trees)
