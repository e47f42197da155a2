-- Related things match alike.
use Rattle.std.proofs.Common.{◌≡◌, Bool, true, false, List, [], ◌∷◌, ◌++◌, Option, Some, None, option_map, refl, ap, subst}
use Rattle.std.specs.Prelude.{option_and_then, if◌then◌else◌}
use Rattle.std.specs.List.{AllZip}
use Rattle.pr_value.specs.Trees.{node, Trees, nil, cons}
use Rattle.descriptor_types.specs.Descriptors.{Desc}
use Rattle.rule_runs.specs.Laws.{LookAlike, MatchAlike}
use Rattle.rule_runs.specs.Matching.{Matched, Rooted, matched, all_matched, with_node, and_match, is_number}
use Rattle.rule_runs.specs.Sides.{Side, SideLabel, operator, stream}
use Rattle.rule_runs.specs.Slotting.{and_slots}

pub zip_append : {A B : Type 0} (R : A → B → Type 0) (xs vs : List A) (ys ws : List B) → AllZip R xs ys → AllZip R vs ws → AllZip R (xs ++ vs) (ys ++ ws)
zip_append R [] vs [] ws p q = q
zip_append R [] vs (y ∷ ys) ws p q = absurd p
zip_append R (x ∷ xs) vs [] ws p q = absurd p
zip_append R (x ∷ xs) vs (y ∷ ys) ws p q = (p.0, zip_append R xs vs ys ws p.1 q)

module _ {A B : Type 0} (R : A → B → Type 0) where
  if_alike : (x y : Bool) (m : Option (Matched A)) (n : Option (Matched B)) → x ≡ y → MatchAlike R m n → MatchAlike R (if x then m else None) (if y then n else None)
  if_alike x y m n e p = subst (λ z. MatchAlike R (if x then m else None) (if z then n else None)) e (one x)
    where
      one : (z : Bool) → MatchAlike R (if z then m else None) (if z then n else None)
      one true = p
      one false = tt

  node_alike : (d e : Desc) (m : Option (Matched A)) (n : Option (Matched B)) → d ≡ e → MatchAlike R m n → MatchAlike R (option_map (with_node d) m) (option_map (with_node e) n)
  node_alike d e None None is p = tt
  node_alike d e (Some m) None is p = absurd p
  node_alike d e None (Some n) is p = absurd p
  node_alike d e (Some m) (Some n) is p = (λ i. record { nodes = is i ∷ (p.0 i).nodes; streams = (p.0 i).streams }, p.1)

  both_alike : (m m' : Matched A) (n n' : Matched B) → MatchAlike R (Some m) (Some n) → MatchAlike R (Some m') (Some n') → MatchAlike R (Some (and_match m m')) (Some (and_match n n'))
  both_alike m m' n n' p q = (λ i. and_slots (p.0 i) (q.0 i), zip_append R m.streams m'.streams n.streams n'.streams p.1 q.1)

  rest_alike : (m : Matched A) (n : Matched B) (ms : Option (Matched A)) (ns : Option (Matched B)) → MatchAlike R (Some m) (Some n) → MatchAlike R ms ns → MatchAlike R (option_map (and_match m) ms) (option_map (and_match n) ns)
  rest_alike m n None None p q = tt
  rest_alike m n (Some m') None p q = absurd q
  rest_alike m n None (Some n') p q = absurd q
  rest_alike m n (Some m') (Some n') p q = both_alike m m' n n' p q

  and_alike : (m ms : Option (Matched A)) (n ns : Option (Matched B)) → MatchAlike R m n → MatchAlike R ms ns → MatchAlike R (option_and_then (λ x. option_map (and_match x) ms) m) (option_and_then (λ x. option_map (and_match x) ns) n)
  and_alike None ms None ns p q = tt
  and_alike (Some m) ms None ns p q = absurd p
  and_alike None ms (Some n) ns p q = absurd p
  and_alike (Some m) ms (Some n) ns p q = rest_alike m n ms ns p q

  module _ (ra : Rooted A) (rb : Rooted B) (h : LookAlike ra rb R) where
    mutual
      pub matched_alike : (p : Side) (a : A) (b : B) → R a b → MatchAlike R (matched ra p a) (matched rb p b)
      matched_alike (node (stream n) ls) a b r = (ap (λ v. record { nodes = []; streams = v ∷ [] }) (h.view a b r), (r, tt))
      matched_alike (node (operator op) ls) a b r =
          if_alike (is_number (ra.op a) op) (is_number (rb.op b) op) (option_map (with_node (ra.whole a)) (all_matched ra ls (ra.inputs a))) (option_map (with_node (rb.whole b)) (all_matched rb ls (rb.inputs b)))
          (ap (λ o. is_number o op) (h.op a b r))
          (node_alike (ra.whole a) (rb.whole b) (all_matched ra ls (ra.inputs a)) (all_matched rb ls (rb.inputs b)) (h.whole a b r) (all_matched_alike ls (ra.inputs a) (rb.inputs b) (h.inputs a b r)))

      pub all_matched_alike : (ps : Trees SideLabel) (xs : List A) (ys : List B) → AllZip R xs ys → MatchAlike R (all_matched ra ps xs) (all_matched rb ps ys)
      all_matched_alike nil [] [] r = (refl, tt)
      all_matched_alike nil (x ∷ xs) (y ∷ ys) r = tt
      all_matched_alike nil [] (y ∷ ys) r = absurd r
      all_matched_alike nil (x ∷ xs) [] r = absurd r
      all_matched_alike (cons p ps) [] [] r = tt
      all_matched_alike (cons p ps) [] (y ∷ ys) r = absurd r
      all_matched_alike (cons p ps) (x ∷ xs) [] r = absurd r
      all_matched_alike (cons p ps) (x ∷ xs) (y ∷ ys) r =
          and_alike (matched ra p x) (all_matched ra ps xs) (matched rb p y) (all_matched rb ps ys) (matched_alike p x y r.0) (all_matched_alike ps xs ys r.1)
