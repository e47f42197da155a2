-- What left sides match in trees of a rule set.
use Rattle.std.specs.Prelude.{◌≡◌, length, List}
use Rattle.std.specs.List.{AllByRecursion as Every}
use Rattle.catalog.specs.Contents.{Catalog}
use Rattle.descriptor_types.specs.Labels.{Label, seen_tree}
use Rattle.descriptor_types.specs.declared.tree.Tree as code
use Rattle.pr_value.specs.Trees.{Tree}
use Rattle.rule_ast.specs.Descs.{node_descs, stream_descs}
use Rattle.rule_ast.specs.Syntax.{LeftLabel, Rules}
use Rattle.rule_runs.specs.Matching.{Matched}
use Rattle.rule_runs.specs.SeenMatches.{seen_matched}
use Rattle.rule_runs.specs.declared.matching.Matched as rust
use Rattle.rule_trees.specs.Trees.{IsDesc, IsTree}
use Rattle.std.specs.Borrow.{Bor}

-- how the definitions see a match of the code
abbrev pub seen_match : rust.Matched (Bor code.Tree) → Matched (Tree Label)
seen_match = seen_matched (λ t. seen_tree t.now)

-- a descriptor for each node, and a view and a tree for each stream, all of trees of the rules
pub record IsMatchOf (r : Rules) (c : Catalog) (l : Tree LeftLabel) (m : Matched (Tree Label)) : Type 0 where
  pub as_many_nodes : length m.slots.nodes ≡ length (node_descs l)
  pub as_many_views : length m.slots.streams ≡ length (stream_descs l)
  pub as_many_streams : length m.streams ≡ length (stream_descs l)
  pub nodes : Every (IsDesc r) m.slots.nodes
  pub views : Every (IsDesc r) m.slots.streams
  pub trees : Every (IsTree r c) m.streams
