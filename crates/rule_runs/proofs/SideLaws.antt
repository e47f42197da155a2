-- Sides of rules as the code puts them together.
use Rattle.std.proofs.Common.{◌≡◌, ℕ, ◌+◌, ◌<◌, List, [], ◌∷◌, ◌++◌, length, take, get_or, map, refl, ap, sym, ◌∙◌}
use Rattle.std.proofs.lemmas.List.{map-append, take_more}
use Rattle.pr_value.specs.Symbols.{Symbol}
use Rattle.pr_value.specs.Trees.{Tree, node, nil, cons, tree, trees_of}
use Rattle.rule_ast.specs.Seen.{seen_left, seen_left_in, left_level, left_input_level, seen_right, seen_right_in, right_level, right_input_level}
use Rattle.rule_ast.specs.Syntax.{LeftLabel, RightLabel, Operator}
use Rattle.rule_ast.specs.declared.sides.Left as left
use Rattle.rule_ast.specs.declared.sides.Left.{out-Left}
use Rattle.rule_ast.specs.declared.sides.LeftIn as left_in
use Rattle.rule_ast.specs.declared.sides.LeftIn.TheFolds.{fold_out-Left, fold-roll-LeftIn}
use Rattle.rule_ast.specs.declared.sides.LeftIn.TheOpen.{LeftIn-F}
use Rattle.rule_ast.specs.declared.sides.LeftIn.TheVariants as left_ins
use Rattle.rule_ast.specs.declared.sides.Right as right
use Rattle.rule_ast.specs.declared.sides.Right.{out-Right}
use Rattle.rule_ast.specs.declared.sides.RightIn as right_in
use Rattle.rule_ast.specs.declared.sides.RightIn.TheFolds.{fold_out-Right, fold-roll-RightIn}
use Rattle.rule_ast.specs.declared.sides.RightIn.TheOpen.{RightIn-F}
use Rattle.rule_ast.specs.declared.sides.RightIn.TheVariants as right_ins
use Rattle.rule_runs.specs.SeenSides.{seen_side, side_level}
use Rattle.rule_runs.specs.Sides.{Side, operator, stream, left_side_in, left_sides_in, right_side_in, right_sides_in, operator_at, place_in}
use Rattle.rule_runs.specs.declared.sides.Side as rust
use Rattle.rule_runs.specs.declared.sides.Side.TheOpen.{Side-F}
use Rattle.rule_runs.specs.declared.sides.Side.TheFolds.{fold-roll-Side}
use Rattle.rule_runs.specs.declared.sides.Side.TheVariants as variant

pub seen-Operator : (op : ℕ) (inputs : List rust.Side) → seen_side (variant.Operator op inputs) ≡ tree (operator op) (map seen_side inputs)
seen-Operator op inputs = ap seen_side (sym (variant.rolls-Operator op inputs)) ∙ fold-roll-Side Side side_level (Side-F.Operator op inputs)

pub seen-Stream : (place : ℕ) → seen_side (variant.Stream place) ≡ tree (stream place) []
seen-Stream place = ap seen_side (sym (variant.rolls-Stream place)) ∙ fold-roll-Side Side side_level (Side-F.Stream place)

-- one more that is made
pub made-more : {X Y Z : Type 0} (seen : X → Z) (f : Y → Z) (old new : List X) (one : X) (ys : List Y) (i : ℕ) (y : Y) → i < length ys → y ≡ get_or ys i y → map seen old ≡ map f (take i ys) → new ≡ old ++ one ∷ [] → seen one ≡ f y → map seen new ≡ map f (take (i + 1) ys)
made-more {X} {Y} {Z} seen f old new one ys i y within is so_far pushed this =
    ap (map seen) pushed ∙ (map-append seen old (one ∷ []) ∙ (ap (λ (zs : List Z). zs ++ seen one ∷ []) so_far ∙ (ap (λ z. map f (take i ys) ++ z ∷ []) this
    ∙ (sym (map-append f (take i ys) (y ∷ [])) ∙ (ap (λ x. map f (take i ys ++ x ∷ [])) is ∙ ap (map f) (sym (take_more ys i y within)))))))

module _ (os : List Operator) (ns : List ℕ) where
  pub left-each : (ls : List left_in.LeftIn) → left_sides_in os ns (trees_of (map seen_left_in ls)) ≡ trees_of (map (λ x. left_side_in os ns (seen_left_in x)) ls)
  left-each [] = refl
  left-each (l ∷ ls) = ap (λ rest. cons (left_side_in os ns (seen_left_in l)) rest) (left-each ls)

  pub left-node : (l : left.Left) (ls : List left_in.LeftIn) (op : ℕ) (inputs : List rust.Side) → ls ≡ (out-Left l).inputs → op ≡ operator_at os (out-Left l).op → trees_of (map seen_side inputs) ≡ left_sides_in os ns (trees_of (map seen_left_in ls)) → seen_side (variant.Operator op inputs) ≡ left_side_in os ns (seen_left l)
  left-node l ls op inputs same is below =
      let seen_l : seen_left l ≡ tree (LeftLabel.operator (out-Left l).op (out-Left l).desc) (map seen_left_in ls) =
      fold_out-Left (Tree LeftLabel) (Tree LeftLabel) left_input_level left_level l ∙ ap (λ xs. tree (LeftLabel.operator (out-Left l).op (out-Left l).desc) (map seen_left_in xs)) (sym same) in
      seen-Operator op inputs ∙ (ap (λ n. node (operator n) (trees_of (map seen_side inputs))) is ∙ (ap (λ ts. node (operator (operator_at os (out-Left l).op)) ts) below ∙ ap (left_side_in os ns) (sym seen_l)))

  pub left-stream : (x : left_in.LeftIn) (n : ℕ) (d : Symbol) (place : ℕ) → x ≡ left_ins.Stream n d → place ≡ place_in ns n → seen_side (variant.Stream place) ≡ left_side_in os ns (seen_left_in x)
  left-stream x n d place is at =
      let seen_x : seen_left_in x ≡ tree (LeftLabel.stream n d) [] =
      ap seen_left_in (is ∙ sym (left_ins.rolls-Stream n d)) ∙ fold-roll-LeftIn (Tree LeftLabel) (Tree LeftLabel) left_input_level left_level (LeftIn-F.Stream n d) in
      seen-Stream place ∙ (ap (λ p. node (stream p) nil) at ∙ ap (left_side_in os ns) (sym seen_x))

  pub right-each : (rs : List right_in.RightIn) → right_sides_in os ns (trees_of (map seen_right_in rs)) ≡ trees_of (map (λ x. right_side_in os ns (seen_right_in x)) rs)
  right-each [] = refl
  right-each (r ∷ rs) = ap (λ rest. cons (right_side_in os ns (seen_right_in r)) rest) (right-each rs)

  pub right-node : (r : right.Right) (rs : List right_in.RightIn) (op : ℕ) (inputs : List rust.Side) → rs ≡ (out-Right r).inputs → op ≡ operator_at os (out-Right r).op → trees_of (map seen_side inputs) ≡ right_sides_in os ns (trees_of (map seen_right_in rs)) → seen_side (variant.Operator op inputs) ≡ right_side_in os ns (seen_right r)
  right-node r rs op inputs same is below =
      let seen_r : seen_right r ≡ tree (RightLabel.operator (out-Right r).op (out-Right r).desc) (map seen_right_in rs) =
      fold_out-Right (Tree RightLabel) (Tree RightLabel) right_input_level right_level r ∙ ap (λ xs. tree (RightLabel.operator (out-Right r).op (out-Right r).desc) (map seen_right_in xs)) (sym same) in
      seen-Operator op inputs ∙ (ap (λ n. node (operator n) (trees_of (map seen_side inputs))) is ∙ (ap (λ ts. node (operator (operator_at os (out-Right r).op)) ts) below ∙ ap (right_side_in os ns) (sym seen_r)))

  pub right-stream : (x : right_in.RightIn) (n place : ℕ) → x ≡ right_ins.Stream n → place ≡ place_in ns n → seen_side (variant.Stream place) ≡ right_side_in os ns (seen_right_in x)
  right-stream x n place is at =
      let seen_x : seen_right_in x ≡ tree (RightLabel.stream n) [] =
      ap seen_right_in (is ∙ sym (right_ins.rolls-Stream n)) ∙ fold-roll-RightIn (Tree RightLabel) (Tree RightLabel) right_input_level right_level (RightIn-F.Stream n) in
      seen-Stream place ∙ (ap (λ p. node (stream p) nil) at ∙ ap (right_side_in os ns) (sym seen_x))
