-- A side from its root on.
use Rattle.std.proofs.Common.{◌≡◌, ℕ, ◌+◌, ◌<◌, min, Bool, ◌||◌, List, [], ◌∷◌, ◌++◌, length, take, get_or, map, flat_map, refl, ap, sym, ◌∙◌}
use Rattle.std.proofs.lemmas.List.{length-map}
use Rattle.pr_value.specs.Trees.{Tree, trees_of, list_of}
use Rattle.pr_value.proofs.TreeLaws.{list_of_trees_of}
use Rattle.rule_ast.specs.Syntax.{LeftLabel, RightLabel}
use Rattle.rule_ast.specs.Seen.{seen_left, seen_left_in, left_level, left_input_level, seen_right, seen_right_in, right_level, right_input_level}
use Rattle.rule_ast.specs.declared.sides.Left as left
use Rattle.rule_ast.specs.declared.sides.Left.{out-Left}
use Rattle.rule_ast.specs.declared.sides.LeftIn as left_in
use Rattle.rule_ast.specs.declared.sides.LeftIn.TheFolds.{fold_out-Left}
use Rattle.rule_ast.specs.declared.sides.Right as right
use Rattle.rule_ast.specs.declared.sides.Right.{out-Right}
use Rattle.rule_ast.specs.declared.sides.RightIn as right_in
use Rattle.rule_ast.specs.declared.sides.RightIn.TheFolds.{fold_out-Right}
use Rattle.rule_types.proofs.NodeLaws.{one-capped}
use Rattle.rule_types.specs.Uses.{any_node, any_nodes, nodes, nodes_of, counts_left, counts_right}

-- how many inputs a node has
inputs_count : {L X : Type 0} (f : X → Tree L) (xs : List X) → length (list_of (trees_of (map f xs))) ≡ length xs
inputs_count f xs = ap length (list_of_trees_of (map f xs)) ∙ length-map xs f

pub any_node-left : (asked : LeftLabel → ℕ → Bool) (l : left.Left) →
    any_node asked (seen_left l) ≡ (asked (LeftLabel.operator (out-Left l).op (out-Left l).desc) (length (out-Left l).inputs) || any_nodes asked (trees_of (map seen_left_in (out-Left l).inputs)))
any_node-left asked l =
    ap (any_node asked) (fold_out-Left (Tree LeftLabel) (Tree LeftLabel) left_input_level left_level l)
    ∙ ap (λ n. asked (LeftLabel.operator (out-Left l).op (out-Left l).desc) n || any_nodes asked (trees_of (map seen_left_in (out-Left l).inputs))) (inputs_count seen_left_in (out-Left l).inputs)

pub any_node-right : (asked : RightLabel → ℕ → Bool) (r : right.Right) →
    any_node asked (seen_right r) ≡ (asked (RightLabel.operator (out-Right r).op (out-Right r).desc) (length (out-Right r).inputs) || any_nodes asked (trees_of (map seen_right_in (out-Right r).inputs)))
any_node-right asked r =
    ap (any_node asked) (fold_out-Right (Tree RightLabel) (Tree RightLabel) right_input_level right_level r)
    ∙ ap (λ n. asked (RightLabel.operator (out-Right r).op (out-Right r).desc) n || any_nodes asked (trees_of (map seen_right_in (out-Right r).inputs))) (inputs_count seen_right_in (out-Right r).inputs)

nodes-left : (l : left.Left) → nodes counts_left (seen_left l) ≡ 1 + nodes_of counts_left (trees_of (map seen_left_in (out-Left l).inputs))
nodes-left l = ap (nodes counts_left) (fold_out-Left (Tree LeftLabel) (Tree LeftLabel) left_input_level left_level l)

nodes-right : (r : right.Right) → nodes counts_right (seen_right r) ≡ 1 + nodes_of counts_right (trees_of (map seen_right_in (out-Right r).inputs))
nodes-right r = ap (nodes counts_right) (fold_out-Right (Tree RightLabel) (Tree RightLabel) right_input_level right_level r)

-- the root is one more than the inputs have
pub left_counted : (l : left.Left) (ls : List left_in.LeftIn) (c n most : ℕ) → ls ≡ (out-Left l).inputs → c ≡ min (nodes_of counts_left (trees_of (map seen_left_in ls))) most → n ≡ min (c + 1) most
    → n ≡ min (nodes counts_left (seen_left l)) most
left_counted l ls c n most same e is =
    is ∙ one-capped (nodes counts_left (seen_left l)) (nodes_of counts_left (trees_of (map seen_left_in ls))) c most
    (nodes-left l ∙ ap (λ xs. 1 + nodes_of counts_left (trees_of (map seen_left_in xs))) (sym same)) e

pub right_counted : (r : right.Right) (rs : List right_in.RightIn) (c n most : ℕ) → rs ≡ (out-Right r).inputs → c ≡ min (nodes_of counts_right (trees_of (map seen_right_in rs))) most → n ≡ min (c + 1) most
    → n ≡ min (nodes counts_right (seen_right r)) most
right_counted r rs c n most same e is =
    is ∙ one-capped (nodes counts_right (seen_right r)) (nodes_of counts_right (trees_of (map seen_right_in rs))) c most
    (nodes-right r ∙ ap (λ xs. 1 + nodes_of counts_right (trees_of (map seen_right_in xs))) (sym same)) e

pub ruleset side_laws = (any_node-left, any_node-right)
