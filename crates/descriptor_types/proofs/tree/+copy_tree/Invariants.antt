use Rattle.std.proofs.Common.{◌≡◌, take}
use Rattle.descriptor_types.proofs.tree.+copy_tree.Given as goal

abbrev pub invariant-copy_trees-loop-tree : goal.invariant-copy_trees-loop-tree
invariant-copy_trees-loop-tree l = l.copies.items ≡ take l.tree-index l.trees
