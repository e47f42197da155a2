-- How a file and an operator are seen.
use Rattle.std.proofs.Common.{◌≡◌, ℕ, List, [], map, ap, sym, ◌∙◌}
use Rattle.pr_value.specs.Symbols.{Symbol}
use Rattle.pr_value.specs.Trees.{Tree, tree, inputs}
use Rattle.pr_value.proofs.TreeLaws.{inputs_of_tree}
use Rattle.descriptor_types.specs.Descriptors.{Desc}
use Rattle.descriptor_types.specs.Labels.{Label, file, operator, tree_level, seen_tree}
use Rattle.descriptor_types.specs.declared.tree.Tree as rust
use Rattle.descriptor_types.specs.declared.tree.Tree.TheVariants as variant
use Rattle.descriptor_types.specs.declared.tree.Tree.TheOpen.{Tree-F}
use Rattle.descriptor_types.specs.declared.tree.Tree.TheFolds.{fold-roll-Tree}

pub seen_file : (name : Symbol) (d : Desc) → seen_tree (variant.File name d) ≡ tree (file name d) []
seen_file name d = ap seen_tree (sym (variant.rolls-File name d)) ∙ fold-roll-Tree (Tree Label) tree_level (Tree-F.File name d)

pub seen_node : (op : ℕ) (d : Desc) (ts : List rust.Tree) → seen_tree (variant.Node op d ts) ≡ tree (operator op d) (map seen_tree ts)
seen_node op d ts = ap seen_tree (sym (variant.rolls-Node op d ts)) ∙ fold-roll-Tree (Tree Label) tree_level (Tree-F.Node op d ts)

pub inputs-seen_node : (op : ℕ) (d : Desc) (ts : List rust.Tree) → inputs (seen_tree (variant.Node op d ts)) ≡ map seen_tree ts
inputs-seen_node op d ts = ap inputs (seen_node op d ts) ∙ inputs_of_tree (operator op d) (map seen_tree ts)
