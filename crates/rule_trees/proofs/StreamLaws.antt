-- The trees that the streams of I-rules stand for, where left sides are operators over streams.
use Rattle.std.proofs.Common.{◌≡◌, ℕ, zero, suc, ◌<◌, ◌≤◌, Bool, true, false, cond, List, [], ◌∷◌, length, map, get_or, Option, Some, None, option_map, Bor, IfSome, refl, ap, sym, ◌∙◌, subst, arith}
use Rattle.std.specs.Prelude.{◌≢◌, ◌==◌, option_and_then, slice_get}
use Rattle.std.specs.Cmp.{first_so, second_so}
use Rattle.std.specs.List.{Contains, list_all}
use Rattle.std.specs.Option.{MatchOption}
use Rattle.std.proofs.lemmas.Bool.{false≢true}
use Rattle.std.proofs.lemmas.List.{length-map}
use Rattle.descriptor_types.proofs.SeenLaws.{seen_file, seen_node}
use Rattle.descriptor_types.specs.Descriptors.{Desc}
use Rattle.descriptor_types.specs.Labels.{Label, file, operator, seen_tree}
use Rattle.descriptor_types.specs.declared.tree.Tree as rust
use Rattle.descriptor_types.specs.declared.tree.Tree.TheVariants as variant
use Rattle.pr_value.specs.Symbols.{Symbol}
use Rattle.pr_value.specs.Trees.{Tree, Trees, node, nil, cons, list_of, trees_of}
use Rattle.rule_ast.specs.Descs.{stream_numbers}
use Rattle.rule_ast.specs.Seen.{seen_irule, seen_left_in, left_level, left_input_level}
use Rattle.rule_ast.specs.declared.parts.IRule as irule
use Rattle.rule_ast.specs.declared.sides.Left.{out-Left}
use Rattle.rule_ast.specs.declared.sides.LeftIn.TheFolds.{fold_out-Left}
use Rattle.rule_ast.specs.Syntax.{IRule, LeftLabel, Operator, Rules}
use Rattle.rule_runs.specs.Matching.{Matched, all_matched, and_match, matched, one_stream, with_node}
use Rattle.rule_runs.specs.Sides as side
use Rattle.rule_runs.specs.Sides.{left_side, left_sides_in, operator_at}
use Rattle.rule_types.proofs.AcceptedSides.{accepted-sides}
use Rattle.rule_types.specs.AcceptedLaws.{is_flat, is_sound_irule, is_stream}
use Rattle.rule_types.specs.Conditions.{refused_by}
use Rattle.rule_trees.proofs.AcceptedFacts.{passes-Contains, slice_get-map}
use Rattle.rule_trees.specs.Steps.{i_streams, i_stream_tree, irule_match, tree_roots}

-- an operator over streams
pub record IsOverStreams (l : Tree LeftLabel) (op : Symbol) (inputs : List (Tree LeftLabel)) : Type 0 where
  pub desc : Symbol
  pub trees : Trees LeftLabel
  pub is : l ≡ node (LeftLabel.operator op desc) trees
  pub listed : list_of trees ≡ inputs

pub irule-flat : (r : Rules) → refused_by r ≡ None → (i : IRule) → Contains r.irules i → is_flat i.left ≡ true
irule-flat r accepted i there = first_so _ _ (first_so _ _ (passes-Contains is_sound_irule r.irules i (accepted-sides r accepted).irules there))

abbrev streams : Option (Matched (Tree Label)) → Option (List (Tree Label))
streams o = option_map (λ m. m.streams) o

more : (o : Option (Matched (Tree Label))) (v : Desc) (t : Tree Label) → streams (option_map (and_match (one_stream v t)) o) ≡ option_map (λ ts. t ∷ ts) (streams o)
more None v t = refl
more (Some m) v t = refl

below : (o : Option (Matched (Tree Label))) (d : Desc) → streams (option_map (with_node d) o) ≡ streams o
below None d = refl
below (Some m) d = refl

module _ (r : Rules) (ns : List ℕ) where
  abbrev under : Trees LeftLabel → List (Tree Label) → Option (Matched (Tree Label))
  under ls ts = all_matched (tree_roots r) (left_sides_in r.operators ns ls) ts

  -- streams match as many trees, whatever they are
  flat-some : (ls : Trees LeftLabel) (ts : List (Tree Label)) → list_all is_stream (list_of ls) ≡ true → length (list_of ls) ≡ length ts → streams (under ls ts) ≡ Some ts
  flat-some nil [] is long = refl
  flat-some nil (t ∷ ts) is long = absurd (omega (arith, long))
  flat-some (cons l ls) [] is long = absurd (omega (arith, long))
  flat-some (cons (node (LeftLabel.operator o d) ks) ls) (t ∷ ts) is long = absurd (false≢true is)
  flat-some (cons (node (LeftLabel.stream n d) ks) ls) (t ∷ ts) is long =
      more (under ls ts) ((tree_roots r).view t) t ∙ ap (option_map (λ xs. t ∷ xs)) (flat-some ls ts (second_so (is_stream (node (LeftLabel.stream n d) ks)) (list_all is_stream (list_of ls)) is) (omega (arith, long)))

  -- and no others
  flat-none : (ls : Trees LeftLabel) (ts : List (Tree Label)) → list_all is_stream (list_of ls) ≡ true → length (list_of ls) ≢ length ts → streams (under ls ts) ≡ None
  flat-none nil [] is other = absurd (other refl)
  flat-none nil (t ∷ ts) is other = refl
  flat-none (cons l ls) [] is other = refl
  flat-none (cons (node (LeftLabel.operator o d) ks) ls) (t ∷ ts) is other = absurd (false≢true is)
  flat-none (cons (node (LeftLabel.stream n d) ks) ls) (t ∷ ts) is other =
      more (under ls ts) ((tree_roots r).view t) t ∙ ap (option_map (λ xs. t ∷ xs)) (flat-none ls ts (second_so (is_stream (node (LeftLabel.stream n d) ks)) (list_all is_stream (list_of ls)) is) (λ same. other (ap suc same)))

-- at an operator: where it is that of the left side, over as many inputs, they are the inputs
module _ (r : Rules) (n k : ℕ) (i : IRule) (o : Symbol) (ins : List (Tree LeftLabel)) (at : slice_get r.irules n ≡ Some i) (over : IsOverStreams i.left o ins) (is_plain : is_flat i.left ≡ true) where
  plain-ins : list_all is_stream (list_of over.trees) ≡ true
  plain-ins = sym (ap is_flat over.is) ∙ is_plain

  abbrev numbers : List ℕ
  numbers = stream_numbers (node (LeftLabel.operator o over.desc) over.trees)

  i_streams-is : (u : Tree Label) → i_streams r n u ≡ streams (irule_match r i u)
  i_streams-is u = ap (option_and_then (λ j. option_map (λ m. m.streams) (irule_match r j u))) at

  here : (op : ℕ) (d : Desc) (ts : Trees Label) (b : Bool) → (op == operator_at r.operators o) ≡ b
      → i_streams r n (node (operator op d) ts) ≡ streams (cond b (option_map (with_node d) (under r numbers over.trees (list_of ts))) None)
  here op d ts b same =
      let u : Tree Label = node (operator op d) ts in
      i_streams-is u ∙ (ap (λ (l : Tree LeftLabel). streams (matched (tree_roots r) (left_side r.operators l) u)) over.is
      ∙ ap (λ (x : Bool). streams (cond x (option_map (with_node d) (under r numbers over.trees (list_of ts))) None)) same)

  abbrev at_place : Option (List (Tree Label)) → Option (Tree Label)
  at_place o = option_and_then (λ xs. slice_get xs k) o

  -- a file is none
  pub stream-file : (name : Symbol) (d : Desc) (ts : Trees Label) → None ≡ i_stream_tree r n k (node (file name d) ts)
  stream-file name d ts =
      let u : Tree Label = node (file name d) ts in
      sym (ap at_place (i_streams-is u ∙ ap (λ (l : Tree LeftLabel). streams (matched (tree_roots r) (left_side r.operators l) u)) over.is))

  pub stream-other : (op : ℕ) (d : Desc) (ts : Trees Label) → (op == operator_at r.operators o) ≡ false → None ≡ i_stream_tree r n k (node (operator op d) ts)
  stream-other op d ts other = sym (ap at_place (here op d ts false other))

  pub stream-more : (op : ℕ) (d : Desc) (ts : Trees Label) → length ins ≢ length (list_of ts) → None ≡ i_stream_tree r n k (node (operator op d) ts)
  stream-more op d ts other = by (op == operator_at r.operators o) refl where
    by : (b : Bool) → (op == operator_at r.operators o) ≡ b → None ≡ i_stream_tree r n k (node (operator op d) ts)
    by false same = stream-other op d ts same
    by true same =
        let none = flat-none r numbers over.trees (list_of ts) plain-ins (λ long. other (sym (ap length over.listed) ∙ long)) in
        sym (ap at_place (here op d ts true same ∙ (below (under r numbers over.trees (list_of ts)) d ∙ none)))

  pub stream-at : (op : ℕ) (d : Desc) (ts : Trees Label) → (op == operator_at r.operators o) ≡ true → length ins ≡ length (list_of ts) → slice_get (list_of ts) k ≡ i_stream_tree r n k (node (operator op d) ts)
  stream-at op d ts same long =
      let some = flat-some r numbers over.trees (list_of ts) plain-ins (ap length over.listed ∙ long) in
      sym (ap at_place (here op d ts true same ∙ (below (under r numbers over.trees (list_of ts)) d ∙ some)))

-- ---- rules as the code has them

pub irule-at : (xs : List irule.IRule) (n : ℕ) → n < length xs → (x : irule.IRule) × (slice_get (map seen_irule xs) n ≡ Some (seen_irule x)) × Contains (map seen_irule xs) (seen_irule x)
irule-at [] n within = absurd (omega (arith, within))
irule-at (x ∷ xs) zero within = (x, refl, (zero, omega arith, refl))
irule-at (x ∷ xs) (suc n) within = let (y, at, (k, low, is)) = irule-at xs n (omega (arith, within)) in (y, at, (suc k, omega (arith, low), is))

listed-trees : {L : Type 0} (ts : List (Tree L)) → list_of (trees_of ts) ≡ ts
listed-trees [] = refl
listed-trees (t ∷ ts) = ap (λ xs. t ∷ xs) (listed-trees ts)

pub irule-over : (x : irule.IRule) → IsOverStreams (seen_irule x).left (out-Left x.left).op (map seen_left_in (out-Left x.left).inputs)
irule-over x = record {
  desc = (out-Left x.left).desc;
  trees = trees_of (map seen_left_in (out-Left x.left).inputs);
  is = fold_out-Left (Tree LeftLabel) (Tree LeftLabel) left_input_level left_level x.left;
  listed = listed-trees (map seen_left_in (out-Left x.left).inputs);
}

-- at a tree as the code has it
module _ (r : Rules) (accepted : refused_by r ≡ None) (n k : ℕ) (x : irule.IRule) (at : slice_get r.irules n ≡ Some (seen_irule x)) (there : Contains r.irules (seen_irule x)) where
  plain_side : is_flat (seen_irule x).left ≡ true
  plain_side = irule-flat r accepted (seen_irule x) there

  abbrev none_at : Tree Label → Type 0
  none_at u = None ≡ i_stream_tree r n k u

  pub none-file : (t : rust.Tree) (name : Symbol) (d : Desc) → t ≡ variant.File name d → none_at (seen_tree t)
  none-file t name d is =
      subst none_at (sym (ap seen_tree is ∙ seen_file name d)) (stream-file r n k (seen_irule x) (out-Left x.left).op (map seen_left_in (out-Left x.left).inputs) at (irule-over x) plain_side name d nil)

  pub none-other : (t : rust.Tree) (op : ℕ) (d : Desc) (us : List rust.Tree) → t ≡ variant.Node op d us → (op == operator_at r.operators (out-Left x.left).op) ≡ false → none_at (seen_tree t)
  none-other t op d us is other =
      subst none_at (sym (ap seen_tree is ∙ seen_node op d us)) (stream-other r n k (seen_irule x) (out-Left x.left).op (map seen_left_in (out-Left x.left).inputs) at (irule-over x) plain_side op d (trees_of (map seen_tree us)) other)

  long_as : (us : List rust.Tree) → length (list_of (trees_of (map seen_tree us))) ≡ length us
  long_as us = ap length (listed-trees (map seen_tree us)) ∙ length-map us seen_tree

  pub none-more : (t : rust.Tree) (op : ℕ) (d : Desc) (us : List rust.Tree) → t ≡ variant.Node op d us → length us ≢ length (out-Left x.left).inputs → none_at (seen_tree t)
  none-more t op d us is other =
      let a = length-map (out-Left x.left).inputs seen_left_in in
      subst none_at (sym (ap seen_tree is ∙ seen_node op d us))
      (stream-more r n k (seen_irule x) (out-Left x.left).op (map seen_left_in (out-Left x.left).inputs) at (irule-over x) plain_side op d (trees_of (map seen_tree us)) (λ long. other (sym (long_as us) ∙ (sym long ∙ a))))

  pub some-at : (t : rust.Tree) (op : ℕ) (d : Desc) (us : List rust.Tree) → t ≡ variant.Node op d us → (op == operator_at r.operators (out-Left x.left).op) ≡ true → length us ≡ length (out-Left x.left).inputs → slice_get (map seen_tree us) k ≡ i_stream_tree r n k (seen_tree t)
  some-at t op d us is same long =
      let a = length-map (out-Left x.left).inputs seen_left_in in
      subst (λ u. slice_get (map seen_tree us) k ≡ i_stream_tree r n k u) (sym (ap seen_tree is ∙ seen_node op d us))
      (ap (λ ts. slice_get ts k) (sym (listed-trees (map seen_tree us)))
      ∙ stream-at r n k (seen_irule x) (out-Left x.left).op (map seen_left_in (out-Left x.left).inputs) at (irule-over x) plain_side op d (trees_of (map seen_tree us)) same (a ∙ (sym long ∙ sym (long_as us))))

-- what stands at a place of a slice, or none past its end
past : (xs : List rust.Tree) (k : ℕ) → length xs ≤ k → slice_get (map seen_tree xs) k ≡ None
past [] k end = refl
past (x ∷ xs) zero end = absurd (omega (arith, end))
past (x ∷ xs) (suc k) end = past xs k (omega (arith, end))

pub looked-up : (o : Option (Bor rust.Tree)) (xs : List rust.Tree) (k : ℕ) (P : Bor rust.Tree → Type 0) → IfSome o (λ x. x.now ≡ get_or xs k x.now) → MatchOption o (length xs ≤ k) (λ x. (k < length xs) × P x)
    → option_map (λ x. seen_tree x.now) o ≡ slice_get (map seen_tree xs) k
looked-up None xs k P is there = sym (past xs k there)
looked-up (Some x) xs k P is there = sym (slice_get-map seen_tree xs k x.now there.0 is)
