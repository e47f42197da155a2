-- The names of descriptors that are pushed, side by side.
use Rattle.std.proofs.Common.{map, ◌≡◌, List, [], ◌∷◌, ◌++◌, flat_map, refl, sym, ap, ◌∙◌, append_assoc}
use Rattle.pr_value.specs.Symbols.{Symbol}
use Rattle.pr_value.specs.Trees.{Tree, trees_of}
use Rattle.rule_ast.specs.Descs.{node_descs, nodes_descs, right_descs, rights_descs, stream_descs, streams_descs}
use Rattle.rule_ast.specs.Syntax.{LeftLabel, RightLabel}
use Rattle.rule_ast.specs.Seen.{seen_left, seen_left_in, left_level, left_input_level, seen_right, seen_right_in, right_level, right_input_level}
use Rattle.rule_ast.specs.declared.sides.Left as left
use Rattle.rule_ast.specs.declared.sides.Left.{out-Left}
use Rattle.rule_ast.specs.declared.sides.LeftIn as left_in
use Rattle.rule_ast.specs.declared.sides.LeftIn.TheFolds.{fold_out-Left}
use Rattle.rule_ast.specs.declared.sides.Right as right
use Rattle.rule_ast.specs.declared.sides.Right.{out-Right}
use Rattle.rule_ast.specs.declared.sides.RightIn as right_in
use Rattle.rule_ast.specs.declared.sides.RightIn.TheFolds.{fold_out-Right}

nodes_each : (ls : List left_in.LeftIn) → nodes_descs (trees_of (map seen_left_in ls)) ≡ flat_map (λ x. node_descs (seen_left_in x)) ls
nodes_each [] = refl
nodes_each (l ∷ ls) = ap (λ ds. node_descs (seen_left_in l) ++ ds) (nodes_each ls)

streams_each : (ls : List left_in.LeftIn) → streams_descs (trees_of (map seen_left_in ls)) ≡ flat_map (λ x. stream_descs (seen_left_in x)) ls
streams_each [] = refl
streams_each (l ∷ ls) = ap (λ ds. stream_descs (seen_left_in l) ++ ds) (streams_each ls)

rights_each : (rs : List right_in.RightIn) → rights_descs (trees_of (map seen_right_in rs)) ≡ flat_map (λ x. right_descs (seen_right_in x)) rs
rights_each [] = refl
rights_each (r ∷ rs) = ap (λ ds. right_descs (seen_right_in r) ++ ds) (rights_each rs)

-- two pushes
two_pushed : (old t u a b : List Symbol) → t ≡ old ++ a → u ≡ t ++ b → u ≡ old ++ (a ++ b)
two_pushed old t u a b e f = f ∙ ap (λ x. x ++ b) e ∙ append_assoc old a b

pub nodes_pushed : (l : left.Left) (ls : List left_in.LeftIn) (old t u : List Symbol) → ls ≡ (out-Left l).inputs → t ≡ old ++ (out-Left l).desc ∷ [] → u ≡ t ++ flat_map (λ x. node_descs (seen_left_in x)) ls → u ≡ old ++ node_descs (seen_left l)
nodes_pushed l ls old t u same e f =
    let d : List Symbol = (out-Left l).desc ∷ [] in
    let text : node_descs (seen_left l) ≡ d ++ flat_map (λ x. node_descs (seen_left_in x)) ls =
    ap node_descs (fold_out-Left (Tree LeftLabel) (Tree LeftLabel) left_input_level left_level l) ∙ ap (λ ds. d ++ ds) (nodes_each (out-Left l).inputs ∙ ap (λ xs. flat_map (λ x. node_descs (seen_left_in x)) xs) (sym same)) in
    two_pushed old t u d _ e f ∙ ap (λ ds. old ++ ds) (sym text)

pub streams_pushed : (l : left.Left) (ls : List left_in.LeftIn) (old t : List Symbol) → ls ≡ (out-Left l).inputs → t ≡ old ++ flat_map (λ x. stream_descs (seen_left_in x)) ls → t ≡ old ++ stream_descs (seen_left l)
streams_pushed l ls old t same e =
    let text : stream_descs (seen_left l) ≡ flat_map (λ x. stream_descs (seen_left_in x)) ls =
    ap stream_descs (fold_out-Left (Tree LeftLabel) (Tree LeftLabel) left_input_level left_level l) ∙ streams_each (out-Left l).inputs ∙ ap (λ xs. flat_map (λ x. stream_descs (seen_left_in x)) xs) (sym same) in
    e ∙ ap (λ ds. old ++ ds) (sym text)

pub right_pushed : (r : right.Right) (rs : List right_in.RightIn) (old t u : List Symbol) → rs ≡ (out-Right r).inputs → t ≡ old ++ (out-Right r).desc ∷ [] → u ≡ t ++ flat_map (λ x. right_descs (seen_right_in x)) rs → u ≡ old ++ right_descs (seen_right r)
right_pushed r rs old t u same e f =
    let d : List Symbol = (out-Right r).desc ∷ [] in
    let text : right_descs (seen_right r) ≡ d ++ flat_map (λ x. right_descs (seen_right_in x)) rs =
    ap right_descs (fold_out-Right (Tree RightLabel) (Tree RightLabel) right_input_level right_level r) ∙ ap (λ ds. d ++ ds) (rights_each (out-Right r).inputs ∙ ap (λ xs. flat_map (λ x. right_descs (seen_right_in x)) xs) (sym same)) in
    two_pushed old t u d _ e f ∙ ap (λ ds. old ++ ds) (sym text)
