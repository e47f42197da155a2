-- Sums up to a greatest number, and the nodes of inputs side by side.
use Rattle.std.proofs.Common.{◌≡◌, ℕ, ◌+◌, ◌<◌, ◌≤◌, min, List, [], ◌∷◌, ◌++◌, length, take, get_or, map, ap, sym, ◌∙◌, inl, inr, arith}
use Rattle.std.specs.Prelude.{nat_lt, ◌⊎◌}
use Rattle.std.proofs.Math.Nat.{add_comm, min-eq_left, min-eq_right}
use Rattle.std.proofs.lemmas.Bool.{cases_lt, lt-ltb}
use Rattle.std.proofs.lemmas.List.{map-append, take_more}
use Rattle.pr_value.specs.Trees.{Tree, trees_of}
use Rattle.rule_types.specs.Uses.{nodes, nodes_of}

add-capped : (a b most : ℕ) → min (min a most + b) most ≡ min (a + b) most
add-capped a b most = by_order (cases_lt a most) where
  by_order : (a < most) ⊎ (most ≤ a) → min (min a most + b) most ≡ min (a + b) most
  by_order (inl h) = ap (λ c. min (c + b) most) (min-eq_left (omega (arith, h)))
  by_order (inr h) =
      ap (λ c. min (c + b) most) (min-eq_right h)
      ∙ (min-eq_right (omega arith) ∙ sym (min-eq_right (omega (arith, h))))

-- both numbers may be past it
pub both-capped : (a b most : ℕ) → min (min a most + min b most) most ≡ min (a + b) most
both-capped a b most =
    add-capped a (min b most) most
    ∙ (ap (λ n. min n most) (add_comm a (min b most))
    ∙ (add-capped b a most ∙ ap (λ n. min n most) (add_comm b a)))

pub one-capped : (n k c most : ℕ) → n ≡ 1 + k → c ≡ min k most → min (c + 1) most ≡ min n most
one-capped n k c most is e =
    ap (λ d. min (d + 1) most) e ∙ (add-capped k 1 most ∙ ap (λ m. min m most) (add_comm k 1 ∙ sym is))

-- a limit below it is passed at the same numbers
pub past-capped : (n limit most : ℕ) → limit < most → nat_lt limit (min n most) ≡ nat_lt limit n
past-capped n limit most below = by_order (cases_lt n most) where
  by_order : (n < most) ⊎ (most ≤ n) → nat_lt limit (min n most) ≡ nat_lt limit n
  by_order (inl h) = ap (nat_lt limit) (min-eq_left (omega (arith, h)))
  by_order (inr h) =
      ap (nat_lt limit) (min-eq_right h)
      ∙ (lt-ltb limit most below ∙ sym (lt-ltb limit n (omega (arith, h, below))))

nodes_of-append : {L : Type 0} (counts : L → ℕ) (ts : List (Tree L)) (t : Tree L) → nodes_of counts (trees_of (ts ++ t ∷ [])) ≡ nodes_of counts (trees_of ts) + nodes counts t
nodes_of-append counts [] t = omega arith
nodes_of-append counts (u ∷ ts) t = let e = nodes_of-append counts ts t in omega (arith, e)

-- the nodes of one input more
pub nodes_of-more : {L X : Type 0} (counts : L → ℕ) (f : X → Tree L) (xs : List X) (i : ℕ) (x : X) (c m most : ℕ) → i < length xs → x ≡ get_or xs i x
    → c ≡ min (nodes_of counts (trees_of (map f (take i xs)))) most → m ≡ min (nodes counts (f x)) most
    → min (c + m) most ≡ min (nodes_of counts (trees_of (map f (take (i + 1) xs)))) most
nodes_of-more counts f xs i x c m most within is so_far here =
    ap (λ d. min (d + m) most) so_far
    ∙ (ap (λ d. min (min (nodes_of counts (trees_of (map f (take i xs)))) most + d) most) here
    ∙ (both-capped (nodes_of counts (trees_of (map f (take i xs)))) (nodes counts (f x)) most
    ∙ ap (λ n. min n most) (sym (
    ap (λ ys. nodes_of counts (trees_of (map f ys))) (take_more xs i x within ∙ ap (λ y. take i xs ++ y ∷ []) (sym is))
    ∙ ap (λ ts. nodes_of counts (trees_of ts)) (map-append f (take i xs) (x ∷ []))
    ∙ nodes_of-append counts (map f (take i xs)) (f x)
    ))))

pub ruleset limit_laws = (past-capped)
