-- The streams, the enforcers and the sizes of the sides of an accepted rule set's rules.
use Rattle.std.proofs.Common.{◌≡◌, ℕ, ◌≤◌, Bool, true, false, not, ◌&&◌, ◌||◌, nat_le, nat_lt, List, map, None, refl, ap, arith}
use Rattle.std.proofs.lemmas.Bool.{and_from, le-leb, ltb-false, not-false, or_parts}
use Rattle.std.specs.List.{list_all, list_any}
use Rattle.pr_value.specs.Trees.{Tree, node, Trees, nil, cons, label, list_of}
use Rattle.rule_ast.specs.Descs.{stream_numbers}
use Rattle.rule_ast.specs.Syntax.{LeftLabel, TRule, IRule, Rules}
use Rattle.rule_types.specs.AcceptedLaws.{HasSoundSides, is_flat, is_small_trule, is_sound_irule, is_sound_trule, is_stream}
use Rattle.rule_types.specs.Conditions.{are_numbers_distinct, left_not_flat, left_stream_twice, most_nodes, refused_by, same_numbers, stream_order, too_many_nodes}
use Rattle.rule_types.specs.Declarations.{Declaration, trule, irule, declarations}
use Rattle.rule_types.specs.LaterConditions.{enforcer_left, enforcer_root, is_left_enforcer, is_right_enforcer}
use Rattle.rule_types.specs.Uses.{any_node, counts_left, counts_right, nodes, nodes_of}
use Rattle.rule_types.proofs.DeclarationLaws.{at, each_irule, each_trule, list_any-either}
use Rattle.rule_types.proofs.RefusalLaws.{nowhere-enforcer_left, nowhere-enforcer_root, nowhere-left_not_flat, nowhere-left_stream_twice, nowhere-stream_order, nowhere-too_many_nodes}

at_most : (most n : ℕ) → nat_lt most n ≡ false → nat_le n most ≡ true
at_most most n e = le-leb n most (ltb-false most n e)

one_stream : (t : Tree LeftLabel) → nodes counts_left t ≡ 0 → is_stream t ≡ true
one_stream (node (LeftLabel.operator o d) ts) e = absurd (omega (arith, e))
one_stream (node (LeftLabel.stream n d) ts) e = refl

all_streams : (ts : Trees LeftLabel) → nodes_of counts_left ts ≡ 0 → list_all is_stream (list_of ts) ≡ true
all_streams nil e = refl
all_streams (cons t ts) e =
    and_from (is_stream t) (list_all is_stream (list_of ts)) (one_stream t (omega (arith, e))) (all_streams ts (omega (arith, e)))

-- below one operator there are streams
flat_one : (t : Tree LeftLabel) → nodes counts_left t ≤ 1 → is_flat t ≡ true
flat_one (node (LeftLabel.operator o d) ts) le = all_streams ts (omega (arith, le))
flat_one (node (LeftLabel.stream n d) ts) le = refl

-- one of the three conditions that are asked of it holds
abbrev bad_trule : Rules → Declaration → Bool
bad_trule r d = left_stream_twice d || (enforcer_left r d || enforcer_root r d)

abbrev bad_irule : Declaration → Bool
bad_irule d = left_not_flat d || (left_stream_twice d || stream_order d)

sound_trule : (r : Rules) (before : List TRule) (t : TRule) → bad_trule r (trule (at before t)) ≡ false → is_sound_trule r t ≡ true
sound_trule r before t e =
    let lefts = are_numbers_distinct (stream_numbers t.left) in
    let enforced = any_node (is_left_enforcer r.irules) t.left in
    let root = is_right_enforcer r.irules (label t.right) in
    let p = or_parts (not lefts) (enforced || root) e in
    let q = or_parts enforced root p.1 in
    and_from (lefts && not enforced) (not root) (and_from lefts (not enforced) (not-false lefts p.0) (ap not q.0)) (ap not q.1)

sound_irule : (before : List IRule) (i : IRule) → bad_irule (irule (at before i)) ≡ false → is_sound_irule i ≡ true
sound_irule before i e =
    let lefts = are_numbers_distinct (stream_numbers i.left) in
    let ordered = same_numbers (map (λ s. s.number) i.right.inputs) (stream_numbers i.left) in
    let count = nodes counts_left i.left in
    let p = or_parts (nat_lt 1 count) (not lefts || not ordered) e in
    let q = or_parts (not lefts) (not ordered) p.1 in
    and_from (is_flat i.left && lefts) ordered (and_from (is_flat i.left) lefts (flat_one i.left (ltb-false 1 count p.0)) (not-false lefts q.0)) (not-false ordered q.1)

small_trule : (before : List TRule) (t : TRule) → too_many_nodes (trule (at before t)) ≡ false → is_small_trule t ≡ true
small_trule before t e =
    let left = nodes counts_left t.left in
    let right = nodes counts_right t.right in
    let p = or_parts (nat_lt most_nodes left) (nat_lt most_nodes right) e in
    and_from (nat_le left most_nodes) (nat_le right most_nodes) (at_most most_nodes left p.0) (at_most most_nodes right p.1)

pub accepted-sides : (r : Rules) → refused_by r ≡ None → HasSoundSides r
accepted-sides r accepted =
    let all = declarations r in
    let once : list_any left_stream_twice all ≡ false = nowhere-left_stream_twice r accepted in
    let bare : list_any (λ d. enforcer_left r d || enforcer_root r d) all ≡ false = list_any-either (enforcer_left r) (enforcer_root r) all (nowhere-enforcer_left r accepted) (nowhere-enforcer_root r accepted) in
    let ordered : list_any (λ d. left_stream_twice d || stream_order d) all ≡ false = list_any-either left_stream_twice stream_order all once (nowhere-stream_order r accepted) in
    let good_trules : list_any (bad_trule r) all ≡ false = list_any-either left_stream_twice (λ d. enforcer_left r d || enforcer_root r d) all once bare in
    let good_irules : list_any bad_irule all ≡ false = list_any-either left_not_flat (λ d. left_stream_twice d || stream_order d) all (nowhere-left_not_flat r accepted) ordered in
    record {
      trules = each_trule (bad_trule r) r good_trules (is_sound_trule r) (sound_trule r);
      sizes = each_trule too_many_nodes r (nowhere-too_many_nodes r accepted) is_small_trule small_trule;
      irules = each_irule bad_irule r good_irules is_sound_irule sound_irule;
    }
