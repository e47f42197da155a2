-- What T-rules make of a tree at its root, and what I-rules ask and cost there: the slots of the
-- tree, the rule's run over them, and the right side put together.
use Rattle.std.specs.Prelude.{ℕ, List, [], Option, Some, None, option_map, option_and_then, slice_get}
use Rattle.pr_value.specs.Trees.{Tree, Trees, tree, label, inputs}
use Rattle.catalog.specs.Contents.{Catalog}
use Rattle.descriptor_types.specs.Descriptors.{Desc, only}
use Rattle.descriptor_types.specs.Labels.{Label, file, operator, desc_in}
use Rattle.rule_ast.specs.Syntax.{TRule, IRule, Rules}
use Rattle.action_eval.specs.Cost.{IStep}
use Rattle.rule_trees.specs.Views.{physical, seen}
use Rattle.rule_runs.specs.Making.{all_made_with, made, made_with}
use Rattle.rule_runs.specs.Matching.{Matched, Rooted, matched}
use Rattle.rule_runs.specs.Runs.{trule_made, irule_run}
use Rattle.rule_runs.specs.Sides.{Side, SideLabel, left_side, right_side}

-- ---- trees as a matcher sees them

abbrev pub op_in : Label → Option ℕ
op_in (file name d) = None
op_in (operator op d) = Some op

-- labels that show a file or an operator, and are made of one
module _ {L : Type 0} (shown : L → Label) (label_of : Label → L) where
  abbrev pub roots_of : Rules → Rooted (Tree L)
  roots_of r = record {
    op = λ t. op_in (shown (label t));
    whole = λ t. desc_in (shown (label t));
    view = λ t. only r.properties (seen r) (desc_in (shown (label t)));
    inputs = inputs;
  }

  -- a right side with these descriptors at its nodes, and these trees in place of its streams
  abbrev pub tree_made : List (Tree L) → Side → List Desc → Tree L
  tree_made = made (λ op d ts. tree (label_of (operator op d)) ts) (tree (label_of (file [] [])) [])

  -- what a rule makes of what its left side matched
  abbrev pub rewritten_on : Rules → Catalog → TRule → Matched (Tree L) → Option (Tree L)
  rewritten_on r c t m =
      option_map (tree_made m.streams (right_side r.operators t.left t.right)) (trule_made r c t m.slots)

  -- at the root of the tree
  abbrev pub stepped_on : Rules → Catalog → TRule → Tree L → Option (Tree L)
  stepped_on r c t u =
      option_and_then (rewritten_on r c t) (matched (roots_of r) (left_side r.operators t.left) u)

-- ---- operator trees

abbrev pub tree_roots : Rules → Rooted (Tree Label)
tree_roots = roots_of (λ l. l) (λ l. l)

-- sides with these descriptors and trees, and the descriptors that are left
abbrev pub tree_with : List (Tree Label) → Side → List Desc → Tree Label × List Desc
tree_with = made_with (λ op d ts. tree (operator op d) ts) (tree (file [] []) [])

abbrev pub trees_with : List (Tree Label) → Trees SideLabel → List Desc → List (Tree Label) × List Desc
trees_with = all_made_with (λ op d ts. tree (operator op d) ts) (tree (file [] []) [])

-- what a rule makes of what its left side matched
abbrev pub rewritten : Rules → Catalog → TRule → Matched (Tree Label) → Option (Tree Label)
rewritten = rewritten_on (λ l. l) (λ l. l)

-- what the left side of a T-rule matches at the root of the tree
abbrev pub trule_match : Rules → TRule → Tree Label → Option (Matched (Tree Label))
trule_match r t = matched (tree_roots r) (left_side r.operators t.left)

abbrev pub irule_match : Rules → IRule → Tree Label → Option (Matched (Tree Label))
irule_match r i = matched (tree_roots r) (left_side r.operators i.left)

-- what the T-rule of that number makes of the tree at its root, or none where it does not apply
abbrev pub step : Rules → Catalog → ℕ → Tree Label → Option (Tree Label)
step r c n u = option_and_then (λ t. stepped_on (λ l. l) (λ l. l) r c t u) (slice_get r.trules n)

-- what the I-rule of that number asks and costs at the root of the tree, or none where it does not
-- apply
abbrev pub i_step : Rules → Catalog → ℕ → Tree Label → Option IStep
i_step r c n u =
    option_and_then (λ i. option_and_then (λ m. irule_run r (physical r) c i m.slots) (irule_match r i u))
    (slice_get r.irules n)

-- the trees that the streams of the I-rule of that number stand for, or none where its operators do
-- not match
abbrev pub i_streams : Rules → ℕ → Tree Label → Option (List (Tree Label))
i_streams r n u =
    option_and_then (λ i. option_map (λ m. m.streams) (irule_match r i u)) (slice_get r.irules n)

-- the tree that its stream of that place stands for
abbrev pub i_stream_tree : Rules → ℕ → ℕ → Tree Label → Option (Tree Label)
i_stream_tree r n i u = option_and_then (λ ts. slice_get ts i) (i_streams r n u)
