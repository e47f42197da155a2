-- Labels of operator trees that hold their views, and whether they are enforcers'.
use Rattle.std.specs.Prelude.{Bool, false, ◌&&◌, ◌==◌, ◌++◌}
use Rattle.std.specs.Hash.{HashWrites, bool, u8, usize}
use Rattle.std.specs.Str.{bytes_eq}
use Rattle.descriptor_types.specs.Descriptors.{Desc, only, same_desc, hashed_desc}
use Rattle.descriptor_types.specs.Labels.{Label, file, operator}
use Rattle.pr_value.specs.Hashed.{hashed_symbol}
use Rattle.pr_value.specs.Values.{same_truth}
use Rattle.rule_ast.specs.Syntax.{Rules}
use Rattle.tree_terms.specs.Equality.{enforces}
use Rattle.rule_trees.specs.Views.{seen}
use Rattle.tree_terms.specs.declared.labels.TreeLabel.{TreeLabel}
use Rattle.tree_terms.specs.declared.labels.TreeLabel.TheVariants.{File, Node}

-- the label without its view
abbrev pub plain_label : TreeLabel → Label
plain_label (File name d v) = file name d
plain_label (Node op d v e) = operator op d

-- the label with the view of its descriptor, and whether it is an enforcer's
abbrev pub dressed_label : Rules → Label → TreeLabel
dressed_label r (file name d) = File name d (only r.properties (seen r) d)
dressed_label r (operator op d) = Node op d (only r.properties (seen r) d) (enforces r op)

abbrev pub view_of : TreeLabel → Desc
view_of (File name d v) = v
view_of (Node op d v e) = v

-- an enforcer's label only changes how its input is seen
abbrev pub is_on_edge : TreeLabel → Bool
is_on_edge (File name d v) = false
is_on_edge (Node op d v e) = e

abbrev pub same_views : TreeLabel → TreeLabel → Bool
same_views a b = same_desc (view_of a) (view_of b)

abbrev pub same_label : TreeLabel → TreeLabel → Bool
same_label (File m d v) (File n e w) = bytes_eq m n && (same_desc d e && same_desc v w)
same_label (Node m d v a) (Node n e w b) = m == n && (same_desc d e && (same_desc v w && same_truth a b))
same_label _ _ = false

-- the place of the variant, and then what it holds
abbrev pub hashed_label : TreeLabel → HashWrites
hashed_label (File name d v) = u8 0 ++ (hashed_symbol name ++ (hashed_desc d ++ hashed_desc v))
hashed_label (Node op d v e) = u8 1 ++ (usize op ++ (hashed_desc d ++ (hashed_desc v ++ bool e)))
