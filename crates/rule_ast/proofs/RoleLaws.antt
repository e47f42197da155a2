-- The operator of a left side, and the last of a list as it is seen.
use Rattle.std.proofs.Common.{◌≡◌, ◌-◌, List, length, map, ap, ◌∙◌}
use Rattle.std.specs.Prelude.{slice_get, option_map}
use Rattle.std.specs.Str.{bytes_eq}
use Rattle.std.proofs.lemmas.List.{length-map}
use Rattle.std.proofs.lemmas.Option.{slice_get-map}
use Rattle.pr_value.specs.Symbols.{Symbol}
use Rattle.pr_value.specs.Trees.{Tree, label}
use Rattle.rule_ast.specs.CostGiven.{last_of}
use Rattle.rule_ast.specs.Roles.{has_root}
use Rattle.rule_ast.specs.Seen.{seen_left, left_level, left_input_level}
use Rattle.rule_ast.specs.Syntax.{LeftLabel}
use Rattle.rule_ast.specs.declared.sides.Left as left
use Rattle.rule_ast.specs.declared.sides.Left.{out-Left}
use Rattle.rule_ast.specs.declared.sides.LeftIn.TheFolds.{fold_out-Left}

pub has_root-seen : (op : Symbol) (l : left.Left) → has_root op (label (seen_left l)) ≡ bytes_eq (out-Left l).op op
has_root-seen op l = ap (λ (t : Tree LeftLabel). has_root op (label t)) (fold_out-Left (Tree LeftLabel) (Tree LeftLabel) left_input_level left_level l)

pub last_of-map : {A B : Type 0} (f : A → B) (xs : List A) → last_of (map f xs) ≡ option_map f (last_of xs)
last_of-map f xs = ap (λ n. slice_get (map f xs) (n - 1)) (length-map xs f) ∙ slice_get-map f xs (length xs - 1)

pub ruleset root_laws = (has_root-seen)

pub ruleset last_laws = (last_of-map)
