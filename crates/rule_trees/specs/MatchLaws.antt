-- Laws of what the left sides of rules match in trees.
use Rattle.std.specs.Prelude.{◌≡◌, ℕ, List, [], ◌∷◌, Some, option_map, slice_get}
use Rattle.pr_value.specs.Trees.{Tree, Trees, node}
use Rattle.descriptor_types.specs.Descriptors.{Desc, Mask, asked_of}
use Rattle.descriptor_types.specs.Labels.{Label, ask}
use Rattle.rule_ast.specs.Syntax.{TRule, IRule, Rules}
use Rattle.rule_runs.specs.Matching.{Matched, matched}
use Rattle.rule_runs.specs.Sides.{Side, SideLabel, operator, left_side}
use Rattle.rule_trees.specs.Steps.{tree_roots}

-- the side begins with an operator
abbrev pub IsRooted : Side → Type 0
IsRooted s = (op : ℕ) × (inputs : Trees SideLabel) × (s ≡ node (operator op) inputs)

-- each left side begins with an operator
pub record LeftsAreRooted (r : Rules) : Type 0 where
  pub trules : (n : ℕ) (t : TRule) → slice_get r.trules n ≡ Some t → IsRooted (left_side r.operators t.left)
  pub irules : (n : ℕ) (i : IRule) → slice_get r.irules n ≡ Some i → IsRooted (left_side r.operators i.left)

-- the descriptor of the root, which comes first, with these values asked of it
abbrev pub ask_first : Mask → Desc → List Desc → List Desc
ask_first physical wanted [] = []
ask_first physical wanted (d ∷ ds) = asked_of physical wanted d ∷ ds

abbrev pub ask_root : Mask → Desc → Matched (Tree Label) → Matched (Tree Label)
ask_root physical wanted m = record {
  slots = record { nodes = ask_first physical wanted m.slots.nodes; streams = m.slots.streams };
  streams = m.streams;
}

-- what a side matches in a tree of which values are asked is what it matches in the tree, with them
-- asked of the root
abbrev pub AskedMatches : Rules → Type 0
AskedMatches r =
    (s : Side) (physical : Mask) (wanted : Desc) (t : Tree Label) → IsRooted s
    → matched (tree_roots r) s (ask physical wanted t) ≡ option_map (ask_root physical wanted) (matched (tree_roots r) s t)
