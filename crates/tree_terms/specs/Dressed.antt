-- Trees of labels that hold their views, and the same steps on them.
use Rattle.std.specs.Prelude.{ℕ, Bool, ◌&&◌, List, [], Option, None, option_and_then, slice_get, if◌then◌else◌}
use Rattle.std.specs.List.{list_all}
use Rattle.pr_value.specs.Trees.{Tree, Trees, label, map_tree, tree}
use Rattle.catalog.specs.Contents.{Catalog}
use Rattle.descriptor_types.specs.Descriptors.{Desc, fits}
use Rattle.descriptor_types.specs.Labels.{Label, file, operator, desc_in}
use Rattle.rule_ast.specs.Syntax.{Rules, TRule}
use Rattle.rule_runs.specs.Making.{all_made_with, made_with}
use Rattle.rule_runs.specs.Matching.{Matched, Rooted, matched}
use Rattle.rule_runs.specs.Sides.{Side, SideLabel, left_side}
use Rattle.rule_trees.specs.Steps.{roots_of, rewritten_on}
use Rattle.tree_terms.specs.TreeLabels.{plain_label, dressed_label}
use Rattle.tree_terms.specs.declared.labels.TreeLabel.{TreeLabel}

-- the tree without views
abbrev pub plain : Tree TreeLabel → Tree Label
plain = map_tree plain_label

-- the tree with the view of each descriptor
abbrev pub dressed : Rules → Tree Label → Tree TreeLabel
dressed r = map_tree (dressed_label r)

abbrev pub dressed_roots : Rules → Rooted (Tree TreeLabel)
dressed_roots r = roots_of plain_label (dressed_label r) r

-- sides with these descriptors and trees, and the descriptors that are left
abbrev pub dressed_with : Rules → List (Tree TreeLabel) → Side → List Desc → Tree TreeLabel × List Desc
dressed_with r =
    made_with (λ op d ts. tree (dressed_label r (operator op d)) ts) (tree (dressed_label r (file [] [])) [])

abbrev pub all_dressed_with : Rules → List (Tree TreeLabel) → Trees SideLabel → List Desc → List (Tree TreeLabel) × List Desc
all_dressed_with r =
    all_made_with (λ op d ts. tree (dressed_label r (operator op d)) ts) (tree (dressed_label r (file [] [])) [])

-- what a rule sees has a value of its kind for each property, and so have the trees of its streams
abbrev pub are_fit : Rules → Matched (Tree TreeLabel) → Bool
are_fit r m =
    list_all (fits r.properties) m.slots.nodes && list_all (λ t. fits r.properties (desc_in (plain_label (label t)))) m.streams

-- what a rule makes of what its left side matched, where that fits
abbrev pub fit_rewritten : Rules → Catalog → TRule → Matched (Tree TreeLabel) → Option (Tree TreeLabel)
fit_rewritten r c t m = if are_fit r m then rewritten_on plain_label (dressed_label r) r c t m else None

abbrev pub dressed_stepped : Rules → Catalog → TRule → Tree TreeLabel → Option (Tree TreeLabel)
dressed_stepped r c t u =
    option_and_then (fit_rewritten r c t) (matched (dressed_roots r) (left_side r.operators t.left) u)

-- what the T-rule of that number makes of the tree at its root, or none where it does not apply, or
-- what it sees does not fit
abbrev pub dressed_step : Rules → Catalog → ℕ → Tree TreeLabel → Option (Tree TreeLabel)
dressed_step r c n u = option_and_then (λ t. dressed_stepped r c t u) (slice_get r.trules n)
