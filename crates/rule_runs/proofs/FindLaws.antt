-- What a left side matches, behind what was found before.
use Rattle.std.proofs.Common.{◌≡◌, ◌≢◌, ℕ, zero, suc, ◌+◌, ◌<◌, ◌≤◌, true, false, cond, List, [], ◌∷◌, length, map, drop, get_or, Option, Some, None, option_map, refl, ap, sym, ◌∙◌, arith, append_assoc, append-nil}
use Rattle.std.specs.Prelude.{option_and_then, slice_get}
use Rattle.std.proofs.lemmas.List.{drop_all}
use Rattle.std.proofs.lemmas.Option.{slice_get-map, slice_get_read}
use Rattle.action_eval.proofs.TypeLaws.{some-same}
use Rattle.pr_value.specs.Trees.{tree, trees_of}
use Rattle.descriptor_types.specs.Descriptors.{Desc}
use Rattle.rule_runs.specs.Matching.{Matched, Rooted, matched, all_matched, no_match, one_stream, with_node, and_match, is_number}
use Rattle.rule_runs.specs.Sides.{Side, operator, stream}

-- ---- matches put together

pub and_match-assoc : {A : Type 0} (k m n : Matched A) → and_match (and_match k m) n ≡ and_match k (and_match m n)
and_match-assoc k m n = λ i. record {
  slots = record { nodes = append_assoc k.slots.nodes m.slots.nodes n.slots.nodes i; streams = append_assoc k.slots.streams m.slots.streams n.slots.streams i };
  streams = append_assoc k.streams m.streams n.streams i;
}

pub and_match-none : {A : Type 0} (k : Matched A) → and_match k no_match ≡ k
and_match-none k = λ i. record { slots = record { nodes = append-nil k.slots.nodes i; streams = append-nil k.slots.streams i }; streams = append-nil k.streams i }

-- nothing was found before
pub behind-none : {A : Type 0} (o : Option (Matched A)) → option_map (and_match no_match) o ≡ o
behind-none None = refl
behind-none (Some m) = refl

-- behind what was found there, with one node more
pub behind-node : {A : Type 0} (k : Matched A) (d : Desc) (o : Option (Matched A)) → option_map (and_match (and_match k (with_node d no_match))) o ≡ option_map (and_match k) (option_map (with_node d) o)
behind-node k d None = refl
behind-node k d (Some m) = ap Some (and_match-assoc k (with_node d no_match) m)

-- one input, and then the others
pub behind-both : {A : Type 0} (k next : Matched A) (o rest : Option (Matched A)) → option_map (and_match k) o ≡ Some next → option_map (and_match k) (option_and_then (λ m. option_map (and_match m) rest) o) ≡ option_map (and_match next) rest
behind-both k next None rest e = cc
behind-both k next (Some m) None e = refl
behind-both k next (Some m) (Some n) e = ap Some (sym (and_match-assoc k m n)) ∙ ap (λ x. Some (and_match x n)) (some-same e)

pub behind-neither : {A : Type 0} (k : Matched A) (o rest : Option (Matched A)) → option_map (and_match k) o ≡ None → option_map (and_match k) (option_and_then (λ m. option_map (and_match m) rest) o) ≡ None
behind-neither k None rest e = refl
behind-neither k (Some m) rest e = cc

-- ---- one thing

module _ {A : Type 0} (roots : Rooted A) where
  pub other-operator : (s : Side) (op : ℕ) (ss : List Side) (a : A) (k : Matched A) → s ≡ tree (operator op) ss → is_number (roots.op a) op ≡ false → option_map (and_match k) (matched roots s a) ≡ None
  other-operator s op ss a k is other =
      ap (λ x. option_map (and_match k) (matched roots x a)) is
      ∙ ap (λ b. option_map (and_match k) (cond b (option_map (with_node (roots.whole a)) (all_matched roots (trees_of ss) (roots.inputs a))) None)) other

  pub this-operator : (s : Side) (op : ℕ) (ss : List Side) (a : A) (k mid : Matched A) (o : Option (Matched A)) → s ≡ tree (operator op) ss → is_number (roots.op a) op ≡ true → mid ≡ and_match k (with_node (roots.whole a) no_match)
      → option_map (and_match mid) (all_matched roots (trees_of ss) (roots.inputs a)) ≡ o → option_map (and_match k) (matched roots s a) ≡ o
  this-operator s op ss a k mid o is this with_whole below =
      ap (λ x. option_map (and_match k) (matched roots x a)) is
      ∙ (ap (λ b. option_map (and_match k) (cond b (option_map (with_node (roots.whole a)) (all_matched roots (trees_of ss) (roots.inputs a))) None)) this
      ∙ (sym (behind-node k (roots.whole a) (all_matched roots (trees_of ss) (roots.inputs a)))
      ∙ (ap (λ m. option_map (and_match m) (all_matched roots (trees_of ss) (roots.inputs a))) (sym with_whole) ∙ below)))

  pub this-stream : (s : Side) (n : ℕ) (a : A) (k new : Matched A) → s ≡ tree (stream n) [] → new ≡ and_match k (one_stream (roots.view a) a) → option_map (and_match k) (matched roots s a) ≡ Some new
  this-stream s n a k new is pushed = ap (λ x. option_map (and_match k) (matched roots x a)) is ∙ ap Some (sym pushed)

  -- ---- inputs

  -- there are more of one than of the other
  pub other-count : (ss : List Side) (xs : List A) → length ss ≢ length xs → all_matched roots (trees_of ss) xs ≡ None
  other-count [] [] differ = absurd (differ refl)
  other-count [] (a ∷ xs) differ = refl
  other-count (s ∷ ss) [] differ = refl
  other-count (s ∷ ss) (a ∷ xs) differ = after_first (matched roots s a) (other-count ss xs (λ e. differ (ap suc e))) where
    after_first : (o : Option (Matched A)) → all_matched roots (trees_of ss) xs ≡ None → option_and_then (λ (m : Matched A). option_map (and_match m) (all_matched roots (trees_of ss) xs)) o ≡ None
    after_first None none = refl
    after_first (Some m) none = ap (option_map (and_match m)) none

  pub none-counted : (ss : List Side) (xs : List A) (k : Matched A) → length ss ≢ length xs → option_map (and_match k) (all_matched roots (trees_of ss) xs) ≡ None
  none-counted ss xs k differ = ap (option_map (and_match k)) (other-count ss xs differ)

  -- what the rest comes to behind what is found is what all come to
  abbrev pub ComesTo : List Side → List A → ℕ → Matched A → Matched A → Type 0
  ComesTo ss xs i start now = option_map (and_match now) (all_matched roots (trees_of (drop i ss)) (drop i xs)) ≡ option_map (and_match start) (all_matched roots (trees_of ss) xs)

  -- from here on
  at-place : (ss : List Side) (xs : List A) (i : ℕ) (s : Side) (a : A) (now : Matched A) → drop i ss ≡ s ∷ drop (suc i) ss → drop i xs ≡ a ∷ drop (suc i) xs
      → option_map (and_match now) (all_matched roots (trees_of (drop i ss)) (drop i xs)) ≡ option_map (and_match now) (option_and_then (λ m. option_map (and_match m) (all_matched roots (trees_of (drop (suc i) ss)) (drop (suc i) xs))) (matched roots s a))
  at-place ss xs i s a now sides things =
      ap (λ vs. option_map (and_match now) (all_matched roots (trees_of vs) (drop i xs))) sides ∙ ap (λ ys. option_map (and_match now) (all_matched roots (trees_of (s ∷ drop (suc i) ss)) ys)) things

  pub comes-more : (ss : List Side) (xs : List A) (i : ℕ) (s : Side) (a : A) (start now next : Matched A) → drop i ss ≡ s ∷ drop (suc i) ss → drop i xs ≡ a ∷ drop (suc i) xs → ComesTo ss xs i start now → option_map (and_match now) (matched roots s a) ≡ Some next → ComesTo ss xs (i + 1) start next
  comes-more ss xs i s a start now next sides things so_far found =
      let rest = all_matched roots (trees_of (drop (suc i) ss)) (drop (suc i) xs) in
      let one : i + 1 ≡ suc i = omega arith in
      ap (λ n. option_map (and_match next) (all_matched roots (trees_of (drop n ss)) (drop n xs))) one
      ∙ (sym (behind-both now next (matched roots s a) rest found) ∙ (sym (at-place ss xs i s a now sides things) ∙ so_far))

  pub comes-none : (ss : List Side) (xs : List A) (i : ℕ) (s : Side) (a : A) (start now : Matched A) → drop i ss ≡ s ∷ drop (suc i) ss → drop i xs ≡ a ∷ drop (suc i) xs → ComesTo ss xs i start now → option_map (and_match now) (matched roots s a) ≡ None
      → option_map (and_match start) (all_matched roots (trees_of ss) xs) ≡ None
  comes-none ss xs i s a start now sides things so_far none =
      sym so_far ∙ (at-place ss xs i s a now sides things ∙ behind-neither now (matched roots s a) (all_matched roots (trees_of (drop (suc i) ss)) (drop (suc i) xs)) none)

  pub comes-all : (ss : List Side) (xs : List A) (i : ℕ) (start now : Matched A) → length ss ≤ i → length xs ≤ i → ComesTo ss xs i start now → option_map (and_match start) (all_matched roots (trees_of ss) xs) ≡ Some now
  comes-all ss xs i start now no_sides no_things so_far =
      sym so_far ∙ (ap (λ vs. option_map (and_match now) (all_matched roots (trees_of vs) (drop i xs))) (drop_all i ss no_sides)
      ∙ (ap (λ ys. option_map (and_match now) (all_matched roots (trees_of []) ys)) (drop_all i xs no_things) ∙ ap Some (and_match-none now)))

-- ---- places

pub drop-get : {X : Type 0} (xs : List X) (i : ℕ) (x : X) → slice_get xs i ≡ Some x → drop i xs ≡ x ∷ drop (suc i) xs
drop-get [] i x e = cc
drop-get (y ∷ xs) zero x e = ap (λ z. z ∷ xs) (some-same e)
drop-get (y ∷ xs) (suc i) x e = drop-get xs i x e

pub seen-at : {X Y : Type 0} (f : X → Y) (xs : List X) (i : ℕ) (x : X) → i < length xs → x ≡ get_or xs i x → drop i (map f xs) ≡ f x ∷ drop (suc i) (map f xs)
seen-at f xs i x within is = drop-get (map f xs) i (f x) (slice_get-map f xs i ∙ ap (option_map f) (slice_get_read xs (length xs) i x refl within is))
