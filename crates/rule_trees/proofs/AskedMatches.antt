-- What left sides begin with, and what they match in trees of which values are asked.
use Rattle.std.proofs.Common.{◌≡◌, ℕ, zero, suc, Bool, true, false, cond, List, [], ◌∷◌, map, Option, Some, None, option_map, refl, ap, sym, ◌∙◌, subst}
use Rattle.std.specs.Prelude.{◌==◌, slice_get}
use Rattle.action_eval.proofs.TypeLaws.{some-same}
use Rattle.descriptor_types.specs.Descriptors.{Desc, Mask, asked_of}
use Rattle.descriptor_types.specs.Labels.{Label, file, operator, ask}
use Rattle.pr_value.specs.Symbols.{Symbol}
use Rattle.pr_value.specs.Trees.{Tree, Trees, node, list_of, trees_of}
use Rattle.rule_ast.specs.Descs.{node_descs, stream_numbers}
use Rattle.rule_ast.specs.Seen.{seen_irule, seen_left, seen_left_in, left_level, left_input_level}
use Rattle.rule_ast.specs.Syntax.{IRule, LeftLabel, Operator, Rules, TRule}
use Rattle.rule_ast.specs.declared.parts.IRule as irule
use Rattle.rule_ast.specs.declared.sides.Left as left
use Rattle.rule_ast.specs.declared.sides.Left.{out-Left}
use Rattle.rule_ast.specs.declared.sides.LeftIn.TheFolds.{fold_out-Left}
use Rattle.rule_runs.proofs.AskedLaws.{BeginsWithNode, begins}
use Rattle.rule_runs.specs.Matching.{Matched, matched, all_matched, with_node}
use Rattle.rule_runs.specs.Sides as side
use Rattle.rule_runs.specs.Sides.{Side, SideLabel, left_side, left_sides_in, operator_at}
use Rattle.rule_trees.proofs.RootedLaws.{HasRoots}
use Rattle.rule_trees.specs.MatchLaws.{AskedMatches, IsRooted, ask_root}
use Rattle.rule_trees.specs.Steps.{tree_roots}

-- ---- an operator stands at the root of a left side

rooted-side : (os : List Operator) (l : Tree LeftLabel) (o d : Symbol) (ls : Trees LeftLabel) → l ≡ node (LeftLabel.operator o d) ls → IsRooted (left_side os l)
rooted-side os l o d ls is = (operator_at os o, left_sides_in os (stream_numbers (node (LeftLabel.operator o d) ls)) ls, ap (left_side os) is)

pub trule-rooted : (os : List Operator) (t : TRule) → HasRoots t → IsRooted (left_side os t.left)
trule-rooted os t roots = rooted-side os t.left roots.left_op roots.left_desc roots.left_inputs roots.left

left-rooted : (os : List Operator) (l : left.Left) → IsRooted (left_side os (seen_left l))
left-rooted os l = rooted-side os (seen_left l) (out-Left l).op (out-Left l).desc (trees_of (map seen_left_in (out-Left l).inputs)) (fold_out-Left (Tree LeftLabel) (Tree LeftLabel) left_input_level left_level l)

pub irules-rooted : (os : List Operator) (is : List irule.IRule) (n : ℕ) (i : IRule) → slice_get (map seen_irule is) n ≡ Some i → IsRooted (left_side os i.left)
irules-rooted os [] n i at = cc
irules-rooted os (j ∷ is) zero i at = subst (λ (k : IRule). IsRooted (left_side os k.left)) (some-same at) (left-rooted os j.left)
irules-rooted os (j ∷ is) (suc n) i at = irules-rooted os is n i at

pub irules-begin : (is : List irule.IRule) (n : ℕ) (i : IRule) → slice_get (map seen_irule is) n ≡ Some i → BeginsWithNode (node_descs i.left)
irules-begin [] n i at = cc
irules-begin (j ∷ is) zero i at = subst (λ (k : IRule). BeginsWithNode (node_descs k.left)) (some-same at) (begins j.left)
irules-begin (j ∷ is) (suc n) i at = irules-begin is n i at

-- ---- what is asked is seen of the root alone

asked-node : (physical : Mask) (wanted d : Desc) (b : Bool) (o : Option (Matched (Tree Label))) →
    cond b (option_map (with_node (asked_of physical wanted d)) o) None ≡ option_map (ask_root physical wanted) (cond b (option_map (with_node d) o) None)
asked-node physical wanted d true None = refl
asked-node physical wanted d true (Some m) = refl
asked-node physical wanted d false o = refl

asked-root : (r : Rules) (op : ℕ) (ls : Trees SideLabel) (physical : Mask) (wanted : Desc) (t : Tree Label) →
    matched (tree_roots r) (node (side.operator op) ls) (ask physical wanted t) ≡ option_map (ask_root physical wanted) (matched (tree_roots r) (node (side.operator op) ls) t)
asked-root r op ls physical wanted (node (file name d) ts) = refl
asked-root r op ls physical wanted (node (operator n d) ts) = asked-node physical wanted d (n == op) (all_matched (tree_roots r) ls (list_of ts))

pub asked-matches : (r : Rules) → AskedMatches r
asked-matches r s physical wanted t (op, ls, is) =
    ap (λ (p : Side). matched (tree_roots r) p (ask physical wanted t)) is
    ∙ (asked-root r op ls physical wanted t ∙ sym (ap (λ (p : Side). option_map (ask_root physical wanted) (matched (tree_roots r) p t)) is))
