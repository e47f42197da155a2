-- Operators at the roots of sides, and what a step takes and makes.
use Rattle.std.proofs.Common.{◌≡◌, ℕ, zero, suc, List, [], ◌∷◌, map, Option, Some, option_map, subst}
use Rattle.std.specs.Prelude.{option_and_then, slice_get}
use Rattle.action_eval.proofs.TypeLaws.{some-same}
use Rattle.catalog.specs.Contents.{Catalog}
use Rattle.descriptor_types.specs.Descriptors.{Desc}
use Rattle.descriptor_types.specs.Labels.{Label}
use Rattle.pr_value.proofs.Shelf.{option_and_then-some, option_map-some}
use Rattle.pr_value.specs.Symbols.{Symbol}
use Rattle.pr_value.specs.Trees.{Tree, Trees, node, trees_of}
use Rattle.rule_ast.specs.Seen.{seen_left_in, left_level, left_input_level, seen_right_in, right_level, right_input_level, seen_trule}
use Rattle.rule_ast.specs.Syntax.{LeftLabel, RightLabel, TRule, Rules}
use Rattle.rule_ast.specs.declared.parts.TRule as trule
use Rattle.rule_ast.specs.declared.sides.Left.{out-Left}
use Rattle.rule_ast.specs.declared.sides.LeftIn.TheFolds.{fold_out-Left}
use Rattle.rule_ast.specs.declared.sides.Right.{out-Right}
use Rattle.rule_ast.specs.declared.sides.RightIn.TheFolds.{fold_out-Right}
use Rattle.rule_trees.specs.Steps.{rewritten, step, tree_with, trule_match}
use Rattle.rule_runs.specs.Matching.{Matched}
use Rattle.rule_runs.specs.Runs.{trule_made}
use Rattle.rule_runs.specs.Sides.{right_side}

-- ---- the sides of rules

-- operators stand at the roots of both sides
pub record HasRoots (t : TRule) : Type 0 where
  pub left_op : Symbol
  pub left_desc : Symbol
  pub left_inputs : Trees LeftLabel
  pub left : t.left ≡ node (LeftLabel.operator left_op left_desc) left_inputs
  pub right_op : Symbol
  pub right_desc : Symbol
  pub right_inputs : Trees RightLabel
  pub right : t.right ≡ node (RightLabel.operator right_op right_desc) right_inputs

pub seen_trule-roots : (t : trule.TRule) → HasRoots (seen_trule t)
seen_trule-roots t = record {
  left_op = (out-Left t.left).op;
  left_desc = (out-Left t.left).desc;
  left_inputs = trees_of (map seen_left_in (out-Left t.left).inputs);
  left = fold_out-Left (Tree LeftLabel) (Tree LeftLabel) left_input_level left_level t.left;
  right_op = (out-Right t.right).op;
  right_desc = (out-Right t.right).desc;
  right_inputs = trees_of (map seen_right_in (out-Right t.right).inputs);
  right = fold_out-Right (Tree RightLabel) (Tree RightLabel) right_input_level right_level t.right;
}

-- each rule has them
abbrev pub AreRooted : List TRule → Type 0
AreRooted ts = (n : ℕ) (t : TRule) → slice_get ts n ≡ Some t → HasRoots t

pub seen_trules-rooted : (ts : List trule.TRule) → AreRooted (map seen_trule ts)
seen_trules-rooted [] n t at = cc
seen_trules-rooted (s ∷ ts) zero t at = subst HasRoots (some-same at) (seen_trule-roots s)
seen_trules-rooted (s ∷ ts) (suc n) t at = seen_trules-rooted ts n t at

-- ---- what a rule takes and makes

pub record TookAndMade (r : Rules) (c : Catalog) (u v : Tree Label) : Type 0 where
  pub rule : TRule
  pub place : ℕ
  pub there : slice_get r.trules place ≡ Some rule
  pub match : Matched (Tree Label)
  pub matches : trule_match r rule u ≡ Some match
  pub descs : List Desc
  pub runs : trule_made r c rule match.slots ≡ Some descs
  pub makes : (tree_with match.streams (right_side r.operators rule.left rule.right) descs).0 ≡ v

-- where a step gives a tree, its rule matches and its test is true
pub step-takes : (r : Rules) (c : Catalog) (n : ℕ) (u v : Tree Label) → step r c n u ≡ Some v → TookAndMade r c u v
step-takes r c n u v e =
    let one = option_and_then-some (λ (t : TRule). option_and_then (rewritten r c t) (trule_match r t u)) (slice_get r.trules n) v e in
    let t : TRule = one.0 in
    let two = option_and_then-some (rewritten r c t) (trule_match r t u) v one.2 in
    let m : Matched (Tree Label) = two.0 in
    let three = option_map-some (λ (ds : List Desc). (tree_with m.streams (right_side r.operators t.left t.right) ds).0) (trule_made r c t m.slots) v two.2 in
    record { rule = t; place = n; there = one.1; match = m; matches = two.1; descs = three.0; runs = three.1; makes = three.2 }
