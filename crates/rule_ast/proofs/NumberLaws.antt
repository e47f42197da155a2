-- The numbers of a left side's streams, from its root on.
use Rattle.std.proofs.Common.{◌≡◌, ℕ, ◌+◌, ◌<◌, List, [], ◌∷◌, ◌++◌, length, take, get_or, map, flat_map, refl, ap, sym, ◌∙◌}
use Rattle.std.proofs.lemmas.List.{take_more, flat_map_more}
use Rattle.pr_value.specs.Trees.{Tree, trees_of}
use Rattle.rule_ast.specs.Descs.{stream_numbers, streams_numbers}
use Rattle.rule_ast.specs.Syntax.{LeftLabel}
use Rattle.rule_ast.specs.Seen.{seen_left, seen_left_in, left_level, left_input_level}
use Rattle.rule_ast.specs.declared.sides.Left as left
use Rattle.rule_ast.specs.declared.sides.Left.{out-Left}
use Rattle.rule_ast.specs.declared.sides.LeftIn as left_in
use Rattle.rule_ast.specs.declared.sides.LeftIn.TheFolds.{fold_out-Left}

numbers_each : (ls : List left_in.LeftIn) → streams_numbers (trees_of (map seen_left_in ls)) ≡ flat_map (λ x. stream_numbers (seen_left_in x)) ls
numbers_each [] = refl
numbers_each (l ∷ ls) = ap (λ ns. stream_numbers (seen_left_in l) ++ ns) (numbers_each ls)

numbers-left : (l : left.Left) → stream_numbers (seen_left l) ≡ flat_map (λ x. stream_numbers (seen_left_in x)) (out-Left l).inputs
numbers-left l = ap stream_numbers (fold_out-Left (Tree LeftLabel) (Tree LeftLabel) left_input_level left_level l) ∙ numbers_each (out-Left l).inputs

pub numbers_pushed : (l : left.Left) (ls : List left_in.LeftIn) (old new : List ℕ) → ls ≡ (out-Left l).inputs → new ≡ old ++ flat_map (λ x. stream_numbers (seen_left_in x)) ls → new ≡ old ++ stream_numbers (seen_left l)
numbers_pushed l ls old new same e = e ∙ ap (λ ns. old ++ ns) (ap (λ xs. flat_map (λ x. stream_numbers (seen_left_in x)) xs) same ∙ sym (numbers-left l))

-- one input more
pub numbers-more : (ls : List left_in.LeftIn) (i : ℕ) (l : left_in.LeftIn) (start old new : List ℕ) → i < length ls → l ≡ get_or ls i l → old ≡ start ++ flat_map (λ x. stream_numbers (seen_left_in x)) (take i ls) → new ≡ old ++ stream_numbers (seen_left_in l)
    → new ≡ start ++ flat_map (λ x. stream_numbers (seen_left_in x)) (take (i + 1) ls)
numbers-more ls i l start old new within here so_far added =
    added ∙ ap (λ ns. ns ++ stream_numbers (seen_left_in l)) so_far ∙ flat_map_more (λ x. stream_numbers (seen_left_in x)) start (take i ls) l
    ∙ ap (λ xs. start ++ flat_map (λ x. stream_numbers (seen_left_in x)) xs) (ap (λ x. take i ls ++ x ∷ []) here ∙ sym (take_more ls i l within))
