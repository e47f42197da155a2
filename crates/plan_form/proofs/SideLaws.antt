-- The left side of an I-rule: one operator over streams, which stand for the inputs of a tree.
use Rattle.std.proofs.Common.{◌≡◌, ℕ, suc, Bool, true, false, List, [], ◌∷◌, length, map, Some, None, option_map, refl, ap, sym, ◌∙◌, subst}
use Rattle.std.specs.Cmp.{second_so}
use Rattle.std.specs.List.{list_all}
use Rattle.std.proofs.lemmas.Bool.{false≢true}
use Rattle.std.proofs.lemmas.Option.{same_Some}
use Rattle.pr_value.proofs.Shelf.{option_map-some}
use Rattle.pr_value.specs.Trees.{Tree, Trees, node, nil, cons, inputs, list_of}
use Rattle.descriptor_types.specs.Labels.{Label, desc_in}
use Rattle.rule_ast.specs.Descs.{stream_numbers, streams_numbers}
use Rattle.rule_ast.specs.Spelled.{spells_left}
use Rattle.rule_ast.specs.Syntax.{LeftLabel, Operator, Rules}
use Rattle.rule_runs.proofs.WholeLaws.{chosen}
use Rattle.rule_runs.specs.Matching.{Matched, matched, all_matched, and_match, is_number, one_stream, with_node}
use Rattle.rule_runs.specs.Sides.{left_side, left_sides_in, operator_at, place_in}
use Rattle.rule_types.specs.AcceptedLaws.{is_flat, is_stream}
use Rattle.rule_types.specs.Conditions.{same_numbers}
use Rattle.rule_trees.specs.Steps.{op_in, tree_roots}

-- streams match the trees that they stand for, of which there are as many
pub record AreStreams (ls : Trees LeftLabel) (ts : List (Tree Label)) (m : Matched (Tree Label)) : Type 0 where
  pub are : m.streams ≡ ts
  pub long : length (streams_numbers ls) ≡ length ts

all_matched-streams : (r : Rules) (os : List Operator) (ns : List ℕ) (ls : Trees LeftLabel) (ts : List (Tree Label)) (m : Matched (Tree Label)) → list_all is_stream (list_of ls) ≡ true → all_matched (tree_roots r) (left_sides_in os ns ls) ts ≡ Some m → AreStreams ls ts m
all_matched-streams r os ns nil [] m flat e = record { are = ap (λ (k : Matched (Tree Label)). k.streams) (sym (same_Some _ m e)); long = refl }
all_matched-streams r os ns nil (t ∷ ts) m flat e = cc
all_matched-streams r os ns (cons (node (LeftLabel.operator o d) ks) ls) ts m flat e = absurd (false≢true flat)
all_matched-streams r os ns (cons (node (LeftLabel.stream n d) ks) ls) [] m flat e = cc
all_matched-streams r os ns (cons (node (LeftLabel.stream n d) ks) ls) (t ∷ ts) m flat e =
    let rest = option_map-some (and_match (one_stream ((tree_roots r).view t) t)) (all_matched (tree_roots r) (left_sides_in os ns ls) ts) m e in
    let more = all_matched-streams r os ns ls ts rest.0 (second_so true _ flat) rest.1 in
    record { are = ap (λ (k : Matched (Tree Label)). k.streams) (sym rest.2) ∙ ap (λ us. t ∷ us) more.are; long = ap suc more.long }

-- the streams stand for the inputs
pub matched-streams : (r : Rules) (l : Tree LeftLabel) (t : Tree Label) (m : Matched (Tree Label)) → spells_left l ≡ true → is_flat l ≡ true → matched (tree_roots r) (left_side r.operators l) t ≡ Some m → m.streams ≡ inputs t
matched-streams r (node (LeftLabel.stream n d) ls) t m spelled flat e = absurd (false≢true spelled)
matched-streams r (node (LeftLabel.operator o d) ls) (node l ts) m spelled flat e =
    let ns = streams_numbers ls in
    let below = all_matched (tree_roots r) (left_sides_in r.operators ns ls) (list_of ts) in
    let found = option_map-some (with_node (desc_in l)) below m (chosen (is_number (op_in l) (operator_at r.operators o)) (option_map (with_node (desc_in l)) below) m e) in
    ap (λ (k : Matched (Tree Label)). k.streams) (sym found.2) ∙ (all_matched-streams r r.operators ns ls (list_of ts) found.0 flat found.1).are

-- as many as the tree has inputs
pub streams-long : (r : Rules) (l : Tree LeftLabel) (t : Tree Label) (m : Matched (Tree Label)) → spells_left l ≡ true → is_flat l ≡ true → matched (tree_roots r) (left_side r.operators l) t ≡ Some m → length (stream_numbers l) ≡ length (inputs t)
streams-long r (node (LeftLabel.stream n d) ls) t m spelled flat e = absurd (false≢true spelled)
streams-long r (node (LeftLabel.operator o d) ls) (node l ts) m spelled flat e =
    let ns = streams_numbers ls in
    let below = all_matched (tree_roots r) (left_sides_in r.operators ns ls) (list_of ts) in
    let found = option_map-some (with_node (desc_in l)) below m (chosen (is_number (op_in l) (operator_at r.operators o)) (option_map (with_node (desc_in l)) below) m e) in
    (all_matched-streams r r.operators ns ls (list_of ts) found.0 flat found.1).long

pub same_numbers-long : {X : Type 0} (f : X → ℕ) (xs : List X) (ns : List ℕ) → same_numbers (map f xs) ns ≡ true → length xs ≡ length ns
same_numbers-long f [] [] e = refl
same_numbers-long f [] (n ∷ ns) e = absurd (false≢true e)
same_numbers-long f (x ∷ xs) [] e = absurd (false≢true e)
same_numbers-long f (x ∷ xs) (n ∷ ns) e = ap suc (same_numbers-long f xs ns (second_so _ _ e))
