-- The laws of moves, for such data.
use Rattle.std.specs.Prelude.{◌≡◌, ℕ, zero, suc, ◌+◌, ◌-◌, ◌≤◌, ◌<◌, min, Bool, true, false, List, [], ◌∷◌, length, map, take, Option, Some, None, slice_get, nat_lt, if◌then◌else◌, refl}
use Rattle.std.specs.List.{AllZip, AllByRecursion}
use Rattle.std.proofs.Common.{arith, sym, subst}
use Rattle.std.proofs.lemmas.Nat.{mul-le}
use Rattle.pr_value.specs.Capped.{cap}
use Rattle.best_plan.specs.Moves.{Gives, AllLe, AreChoices, AreMoves, Extends, KeepsAnswers}
use Rattle.best_plan.proofs.BoundLaws.{lt_true}
use Rattle.prairie_tests.specs.declared.ways.Kind.{Kind}
use Rattle.prairie_tests.specs.declared.ways.Kind.TheVariants.{Sum, Least, Product}
use Rattle.prairie_tests.specs.declared.ways.Way.{Way}
use Rattle.prairie_tests.specs.Ways.{join, joined, ways_of, input_at, as_alternative}
use Rattle.prairie_tests.specs.Listed.{alternative_of, graph_of, rank_of, reaches_in, reaches_of, IsLater}

join_le : (kind : Kind) (a b c d : ℕ) → a ≤ b → c ≤ d → join kind a c ≤ join kind b d
join_le Sum a b c d h k = omega (arith, h, k)
join_le Least a b c d h k = omega (arith, h, k)
join_le Product a b c d h k = omega (arith, mul-le a c b d h k)

join_capped : (kind : Kind) (a c : ℕ) → join kind a c ≤ cap
join_capped Sum a c = omega arith
join_capped Least a c = omega arith
join_capped Product a c = omega arith

pub joined_le : (kind : Kind) (a b : ℕ) (xs ys : List ℕ) → a ≤ b → AllLe xs ys → joined kind a xs ≤ joined kind b ys
joined_le kind a b [] [] h k = h
joined_le kind a b [] (y ∷ ys) h k = absurd k
joined_le kind a b (x ∷ xs) [] h k = absurd k
joined_le kind a b (x ∷ xs) (y ∷ ys) h k = joined_le kind (join kind a x) (join kind b y) xs ys (join_le kind a b x y h k.0) k.1

pub joined_capped : (kind : Kind) (a : ℕ) (xs : List ℕ) → a ≤ cap → joined kind a xs ≤ cap
joined_capped kind a [] h = h
joined_capped kind a (x ∷ xs) h = joined_capped kind (join kind a x) xs (join_capped kind a x)

way_rises : (n g : ℕ) (o : Option Way) (xs ys : List ℕ) → AllLe xs ys → (as_alternative n g o).cost xs ≤ (as_alternative n g o).cost ys
way_rises n g None xs ys h = omega arith
way_rises n g (Some way) xs ys h = joined_le way.kind (min way.from cap) (min way.from cap) xs ys (omega arith) h

way_capped : (n g : ℕ) (o : Option Way) (xs : List ℕ) → (as_alternative n g o).cost xs ≤ cap
way_capped n g None xs = omega arith
way_capped n g (Some way) xs = joined_capped way.kind (min way.from cap) xs (omega arith)

-- an input is a goal behind this one
IsBehind : ℕ → ℕ → ℕ → Type 0
IsBehind n g i = (g < i) × (i < n)

map_behind : (n g : ℕ) (is : List ℕ) → g + 1 < n → AllByRecursion (λ i. (g < i) × (i < n)) (map (input_at n g) is)
map_behind n g [] h = tt
map_behind n g (i ∷ is) h = ((omega (arith, h), omega (arith, h)), map_behind n g is h)

inputs_behind : (n g : ℕ) (is : List ℕ) (b : Bool) → nat_lt (g + 1) n ≡ b → AllByRecursion (λ i. (g < i) × (i < n)) (if b then map (input_at n g) is else [])
inputs_behind n g is true e = map_behind n g is (lt_true (g + 1) n e)
inputs_behind n g is false e = tt

way_behind : (n g : ℕ) (o : Option Way) → AllByRecursion (λ i. (g < i) × (i < n)) (as_alternative n g o).inputs
way_behind n g None = tt
way_behind n g (Some way) = inputs_behind n g (take 4 way.inputs) (nat_lt (g + 1) n) refl

all_map : (P Q : ℕ → Type 0) (is : List ℕ) → ((i : ℕ) → P i → Q i) → AllByRecursion P is → AllByRecursion Q is
all_map P Q [] f h = tt
all_map P Q (i ∷ is) f h = (f i h.0, all_map P Q is f h.1)

pub take_four : (is : List ℕ) (f : ℕ → ℕ) → length (map f (take 4 is)) ≤ 4
take_four [] f = omega arith
take_four (a ∷ []) f = omega arith
take_four (a ∷ b ∷ []) f = omega arith
take_four (a ∷ b ∷ c ∷ []) f = omega arith
take_four (a ∷ b ∷ c ∷ d ∷ is) f = omega arith

if_few : (is : List ℕ) (f : ℕ → ℕ) (b : Bool) → length (if b then map f (take 4 is) else []) ≤ 4
if_few is f true = take_four is f
if_few is f false = omega arith

way_few : (n g : ℕ) (o : Option Way) → length (as_alternative n g o).inputs ≤ 4
way_few n g None = omega arith
way_few n g (Some way) = if_few way.inputs (input_at n g) (nat_lt (g + 1) n)

pub choices_of : (all : List (List Way)) (opened : List ℕ) → AreChoices (graph_of all opened)
choices_of all opened = record {
  inputs_there = λ g k is. all_map (λ i. (g < i) × (i < length all)) (λ i. i < length all) (alternative_of all g k).inputs (λ i h. h.1) (way_behind (length all) g (slice_get (ways_of all g) k));
  rising = λ g k low high is h. way_rises (length all) g (slice_get (ways_of all g) k) low high h;
  bounded = λ g k costs is h. way_capped (length all) g (slice_get (ways_of all g) k) costs;
  few_inputs = λ g k is. way_few (length all) g (slice_get (ways_of all g) k);
}

-- more steps reach no more
module _ (all : List (List Way)) where
  zip_map : (R S : ℕ → ℕ → Type 0) (is cs : List ℕ) → ((i c : ℕ) → R i c → S i c) → AllZip R is cs → AllZip S is cs
  zip_map R S [] [] f h = tt
  zip_map R S [] (c ∷ cs) f h = absurd h
  zip_map R S (i ∷ is) [] f h = absurd h
  zip_map R S (i ∷ is) (c ∷ cs) f h = (f i c h.0, zip_map R S is cs f h.1)

  zip_where : (P : ℕ → Type 0) (R S : ℕ → ℕ → Type 0) (is cs : List ℕ) → ((i c : ℕ) → P i → R i c → S i c) → AllByRecursion P is → AllZip R is cs → AllZip S is cs
  zip_where P R S [] [] f p h = tt
  zip_where P R S [] (c ∷ cs) f p h = absurd h
  zip_where P R S (i ∷ is) [] f p h = absurd h
  zip_where P R S (i ∷ is) (c ∷ cs) f p h = (f i c p.0 h.0, zip_where P R S is cs f p.1 h.1)

  no_ways : (ws : List (List Way)) (g k : ℕ) → length ws ≤ g → k < length (ways_of ws g) → ⊥
  no_ways [] g k h l = omega (arith, l)
  no_ways (w ∷ ws) zero k h l = omega (arith, h)
  no_ways (w ∷ ws) (suc g) k h l = no_ways ws g k (omega (arith, h)) l

  more : (f f' g c : ℕ) → length all - g ≤ f' → reaches_in f all g c → reaches_in f' all g c
  more zero f' g c h r = absurd r
  more (suc f) zero g c h r = absurd (no_ways all g r.0 (omega (arith, h)) r.1)
  more (suc f) (suc f') g c h r =
      let (k, l, (costs, zip, e)) = r in
      (k, l, (costs, zip_where (λ i. (g < i) × (i < length all)) (reaches_in f all) (reaches_in f' all) (alternative_of all g k).inputs costs (λ i d p q. more f f' i d (omega (arith, p.0, p.1, h)) q) (way_behind (length all) g (slice_get (ways_of all g) k)) zip, e))

  capped : (f g c : ℕ) → reaches_in f all g c → c ≤ cap
  capped zero g c r = absurd r
  capped (suc f) g c r =
      let (k, l, (costs, zip, e)) = r in omega (arith, e, way_capped (length all) g (slice_get (ways_of all g) k) costs)

  to_gives : (f g c : ℕ) → length all - g ≡ f → reaches_in f all g c → (k : ℕ) × (k < length (ways_of all g)) × Gives (reaches_of all) (alternative_of all g k) c
  to_gives zero g c n r = absurd r
  to_gives (suc f) g c n r =
      let (k, l, (costs, zip, e)) = r in
      (k, l, (costs, zip_map (reaches_in f all) (reaches_of all) (alternative_of all g k).inputs costs (λ i d q. more f (length all - i) i d (omega arith) q) zip, e))

  from_gives : (f g c k : ℕ) → length all - g ≡ f → k < length (ways_of all g) → Gives (reaches_of all) (alternative_of all g k) c → reaches_in f all g c
  from_gives zero g c k n l gives = absurd (no_ways all g k (omega (arith, n)) l)
  from_gives (suc f) g c k n l gives =
      let (costs, zip, e) = gives in
      (k, l, (costs, zip_where (λ i. (g < i) × (i < length all)) (reaches_of all) (reaches_in f all) (alternative_of all g k).inputs costs (λ i d p q. more (length all - i) f i d (omega (arith, p.0, p.1, n)) q) (way_behind (length all) g (slice_get (ways_of all g) k)) zip, e))

pub moves_of : (all : List (List Way)) (opened : List ℕ) → AreMoves (graph_of all opened) (rank_of all) (reaches_of all)
moves_of all opened = record {
  capped = λ g c r. capped all (length all - g) g c r;
  reached = λ g c o. (λ r. to_gives all (length all - g) g c refl r, λ h. from_gives all (length all - g) g c h.0 refl h.1 h.2);
  ranked = λ g k is. all_map (λ i. (g < i) × (i < length all)) (λ i. rank_of all i < rank_of all g) (alternative_of all g k).inputs (λ i p. omega (arith, p.0, p.1)) (way_behind (length all) g (slice_get (ways_of all g) k));
}

pub same_of : (all : List (List Way)) (opened : List ℕ) → IsLater all all opened opened
same_of all opened = (refl, λ g h. h)

pub chain_of : (a b c : List (List Way)) (o p q : List ℕ) → IsLater a b o p → IsLater b c p q → IsLater a c o q
chain_of a b c o p q h k = (subst (λ d. d ≡ a) (sym k.0) h.0, λ g e. k.1 g (h.1 g e))

pub grows_of : (a b : List (List Way)) (o p : List ℕ) → IsLater a b o p → Extends (graph_of a o) (graph_of b p)
grows_of a b o p h = subst (λ d. Extends (graph_of a o) (graph_of d p)) (sym h.0) (record { goals = omega arith; unfolded = h.1; count = λ g e. refl; alternative = λ g k e. refl })

pub settled_of : (a b : List (List Way)) (o p : List ℕ) → IsLater a b o p → KeepsAnswers (graph_of a o) (rank_of a) (rank_of b) (reaches_of a) (reaches_of b)
settled_of a b o p h = subst (λ d. KeepsAnswers (graph_of a o) (rank_of a) (rank_of d) (reaches_of a) (reaches_of d)) (sym h.0) (record { ranks = λ g l. refl; costs = λ g c l. (λ r. r, λ r. r) })
