-- No T-rule of an accepted rule set takes or makes a tree with an enforcer at its root.
use Rattle.std.proofs.Common.{◌≡◌, ℕ, zero, suc, Bool, true, false, not, cond, List, [], ◌∷◌, map, Option, Some, None, option_map, refl, ap, sym, ◌∙◌, subst}
use Rattle.std.specs.Prelude.{◌&&◌, ◌==◌, option_and_then, slice_get}
use Rattle.std.specs.Cmp.{first_so, second_so}
use Rattle.std.specs.List.{list_all}
use Rattle.std.specs.Str.{bytes_eq}
use Rattle.std.proofs.lemmas.Bool.{false≢true}
use Rattle.std.proofs.lemmas.Bool.Decides.{Decides-eqb}
use Rattle.action_eval.proofs.PlainLaws.{or_first}
use Rattle.action_eval.proofs.TypeLaws.{some-same}
use Rattle.catalog.specs.Contents.{Catalog}
use Rattle.derivation.specs.Laws.{NoRuleTouches}
use Rattle.descriptor_types.specs.Descriptors.{Desc}
use Rattle.descriptor_types.specs.Labels.{Label, file, operator}
use Rattle.pr_value.proofs.Shelf.{bytes_eq-same, option_and_then-some, option_map-some}
use Rattle.pr_value.specs.Symbols.{Symbol}
use Rattle.pr_value.specs.Trees.{Tree, Trees, node, label, list_of, trees_of}
use Rattle.rule_ast.specs.Descs.{stream_numbers}
use Rattle.rule_ast.specs.Roles.{is_enforcer}
use Rattle.rule_ast.specs.Seen.{seen_left_in, left_level, left_input_level, seen_right_in, right_level, right_input_level, seen_trule}
use Rattle.rule_ast.specs.Syntax.{LeftLabel, RightLabel, Operator, TRule, Rules}
use Rattle.rule_ast.specs.declared.parts.TRule as trule
use Rattle.rule_ast.specs.declared.sides.Left.{out-Left}
use Rattle.rule_ast.specs.declared.sides.LeftIn.TheFolds.{fold_out-Left}
use Rattle.rule_ast.specs.declared.sides.Right.{out-Right}
use Rattle.rule_ast.specs.declared.sides.RightIn.TheFolds.{fold_out-Right}
use Rattle.rule_types.specs.AcceptedLaws.{HasSoundSides, is_sound_trule}
use Rattle.rule_types.specs.Conditions.{are_numbers_distinct}
use Rattle.rule_types.specs.LaterConditions.{is_left_enforcer, is_right_enforcer}
use Rattle.rule_types.specs.Uses.{any_node, any_nodes}
use Rattle.tree_terms.specs.Equality.{enforces, is_enforcing, leads_to_null}
use Rattle.rule_trees.proofs.RootedLaws.{AreRooted, HasRoots, TookAndMade, step-takes}
use Rattle.rule_trees.specs.Steps.{rewritten, step, tree_roots, tree_with, trule_match}
use Rattle.rule_runs.specs.Matching.{Matched, matched, all_matched, with_node}
use Rattle.rule_runs.specs.Runs.{trule_made}
use Rattle.rule_runs.specs.Sides as side
use Rattle.rule_runs.specs.Sides.{Side, SideLabel, left_side, left_side_in, left_sides_in, operator_at, right_side, right_side_in, right_sides_in}

passes-at : {X : Type 0} (p : X → Bool) (xs : List X) (n : ℕ) (x : X) → list_all p xs ≡ true → slice_get xs n ≡ Some x → p x ≡ true
passes-at p [] n x all at = cc
passes-at p (y ∷ ys) zero x all at = subst (λ z. p z ≡ true) (some-same at) (first_so _ _ all)
passes-at p (y ∷ ys) (suc n) x all at = passes-at p ys n x (second_so _ _ all) at

-- ---- enforcers

-- the operator of a name is no enforcer where none of that name is
at_plain : (r : Rules) (os : List Operator) (name : Symbol) → is_enforcer r.irules name ≡ false → leads_to_null r (slice_get os (operator_at os name)) ≡ false
at_plain r [] name plain = refl
at_plain r (p ∷ ps) name plain = by (bytes_eq p.name name) refl (at_plain r ps name plain) where
  by : (b : Bool) → bytes_eq p.name name ≡ b → leads_to_null r (slice_get ps (operator_at ps name)) ≡ false → leads_to_null r (slice_get (p ∷ ps) (cond b 0 (suc (operator_at ps name)))) ≡ false
  by true e rest = ap (is_enforcer r.irules) (bytes_eq-same p.name name e) ∙ plain
  by false e rest = rest

-- a tree that an operator matches has that operator at its root
matched-op : (r : Rules) (op : ℕ) (ls : Trees SideLabel) (u : Tree Label) (m : Matched (Tree Label)) → enforces r op ≡ false → matched (tree_roots r) (node (side.operator op) ls) u ≡ Some m → is_enforcing r (label u) ≡ false
matched-op r op ls (node (file name e) ts) m plain is = cc
matched-op r op ls (node (operator n e) ts) m plain is = by (n == op) refl is where
  by : (b : Bool) → (n == op) ≡ b → cond b (option_map (with_node e) (all_matched (tree_roots r) ls (list_of ts))) None ≡ Some m → enforces r n ≡ false
  by true same is = ap (enforces r) ((Decides-eqb n op).0 same) ∙ plain
  by false same is = cc

-- what is made of descriptors, or of none, has the side's operator at its root, or is a file
made-op : (r : Rules) (ts : List (Tree Label)) (op : ℕ) (rs : Trees SideLabel) (ds : List Desc) → enforces r op ≡ false → is_enforcing r (label (tree_with ts (node (side.operator op) rs) ds).0) ≡ false
made-op r ts op rs [] plain = refl
made-op r ts op rs (d ∷ ds) plain = plain

-- no enforcer stands on the left side, nor at the root of the right side
sides-plain : (a b c : Bool) → (a && not b && not c) ≡ true → (b ≡ false) × (c ≡ false)
sides-plain true true c e = absurd (false≢true e)
sides-plain true false true e = absurd (false≢true e)
sides-plain true false false e = (refl, refl)
sides-plain false b c e = absurd (false≢true e)

not_both : (b : Bool) → b ≡ false → ¬ (b ≡ true)
not_both b is e = false≢true (sym is ∙ e)

pub step-apart : (r : Rules) (c : Catalog) → AreRooted r.trules → HasSoundSides r → NoRuleTouches (step r c) (is_enforcing r)
step-apart r c rooted sides n u v e =
    let s = step-takes r c n u v e in
    let t : TRule = s.rule in
    let roots = rooted s.place t s.there in
    let sound = passes-at (is_sound_trule r) r.trules s.place t sides.trules s.there in
    let plain = sides-plain (are_numbers_distinct (stream_numbers t.left)) (any_node (is_left_enforcer r.irules) t.left) (is_right_enforcer r.irules (label t.right)) sound in
    let plain_left : is_enforcer r.irules roots.left_op ≡ false = or_first _ (any_nodes (is_left_enforcer r.irules) roots.left_inputs) (ap (any_node (is_left_enforcer r.irules)) (sym roots.left) ∙ plain.0) in
    let plain_right : is_enforcer r.irules roots.right_op ≡ false = ap (λ (x : Tree RightLabel). is_right_enforcer r.irules (label x)) (sym roots.right) ∙ plain.1 in
    let ns = stream_numbers t.left in
    let left_side_is : left_side r.operators t.left ≡ node (side.operator (operator_at r.operators roots.left_op)) (left_sides_in r.operators ns roots.left_inputs) = ap (left_side_in r.operators ns) roots.left in
    let right_side_is : right_side r.operators t.left t.right ≡ node (side.operator (operator_at r.operators roots.right_op)) (right_sides_in r.operators ns roots.right_inputs) = ap (right_side_in r.operators ns) roots.right in
    let took = matched-op r (operator_at r.operators roots.left_op) (left_sides_in r.operators ns roots.left_inputs) u s.match (at_plain r r.operators roots.left_op plain_left) (ap (λ (p : Side). matched (tree_roots r) p u) (sym left_side_is) ∙ s.matches) in
    let makes = made-op r s.match.streams (operator_at r.operators roots.right_op) (right_sides_in r.operators ns roots.right_inputs) s.descs (at_plain r r.operators roots.right_op plain_right) in
    let same : (tree_with s.match.streams (node (side.operator (operator_at r.operators roots.right_op)) (right_sides_in r.operators ns roots.right_inputs)) s.descs).0 ≡ v =
    ap (λ (p : Side). (tree_with s.match.streams p s.descs).0) (sym right_side_is) ∙ s.makes in
    (not_both _ took, not_both _ (ap (λ (x : Tree Label). is_enforcing r (label x)) (sym same) ∙ makes))
