-- The cheaper of two cheapest, and the cheapest among files and rules.
use Rattle.std.proofs.Common.{◌≡◌, ℕ, ◌+◌, ◌<◌, ◌≤◌, Bool, true, false, length, Option, Some, None, refl, arith, inl, inr}
use Rattle.std.specs.Prelude.{◌⊎◌, nat_le, if◌then◌else◌, slice_get}
use Rattle.std.proofs.lemmas.Bool.{cases_lt, leb-false, leb-true}
use Rattle.std.proofs.lemmas.Option.{slice_get_within}
use Rattle.pr_value.proofs.Shelf.{option_and_then-some}
use Rattle.pr_value.specs.Trees.{Tree, node}
use Rattle.catalog.specs.Contents.{Catalog}
use Rattle.descriptor_types.specs.Labels.{Label}
use Rattle.rule_ast.specs.Syntax.{Rules}
use Rattle.plan_form.specs.Plans.{Plan, file, algorithm, cost, Implements, IsAnswer}
use Rattle.plan_search.specs.Search.{IsLeast, lesser, IsBy, IsBelow, IsBestBy, IsBestBelow}

-- ---- the cheaper of two

-- of either kind, and of no other
record AreEither (First Second Both : Plan → Type 0) : Type 0 where
  first : (p : Plan) → First p → Both p
  second : (p : Plan) → Second p → Both p
  either : (p : Plan) → Both p → First p ⊎ Second p

lesser-IsLeast : (cost : Plan → ℕ) (First Second Both : Plan → Type 0) → AreEither First Second Both → (a b : Option Plan) → IsLeast cost First a → IsLeast cost Second b → IsLeast cost Both (lesser cost a b)
lesser-IsLeast cost First Second Both are None None none others = λ p h. elim (are.either p h) [ inl one ↦ none p one | inr other ↦ others p other ]
lesser-IsLeast cost First Second Both are None (Some q) none best =
    (are.second q best.0, λ p h. elim (are.either p h) [ inl one ↦ absurd (none p one) | inr other ↦ best.1 p other ])
lesser-IsLeast cost First Second Both are (Some p) None best none =
    (are.first p best.0, λ q h. elim (are.either q h) [ inl one ↦ best.1 q one | inr other ↦ absurd (none q other) ])
lesser-IsLeast cost First Second Both are (Some p) (Some q) best others = by_test (nat_le (cost p) (cost q)) refl where
  by_test : (b : Bool) → nat_le (cost p) (cost q) ≡ b → IsLeast cost Both (if b then Some p else Some q)
  by_test true e =
      let le : cost p ≤ cost q = leb-true (cost p) (cost q) e in
      (are.first p best.0, λ o h. elim (are.either o h) [ inl one ↦ best.1 o one | inr other ↦ let more = others.1 o other in omega (arith, le, more) ])
  by_test false e =
      let lt : cost q < cost p = leb-false (cost p) (cost q) e in
      (are.second q others.0, λ o h. elim (are.either o h) [ inl one ↦ let more = best.1 o one in omega (arith, lt, more) | inr other ↦ others.1 o other ])

-- ---- one rule after another

below-more : (n : ℕ) (p : Plan) → IsBelow n p → IsBelow (n + 1) p
below-more n (node (file name) ps) h = tt
below-more n (node (algorithm m d) ps) h = omega (arith, h)

by-more : (n : ℕ) (p : Plan) → IsBy n p → IsBelow (n + 1) p
by-more n (node (file name) ps) h = tt
by-more n (node (algorithm m d) ps) h = omega (arith, h)

below-or_by : (n : ℕ) (p : Plan) → IsBelow (n + 1) p → IsBelow n p ⊎ IsBy n p
below-or_by n (node (file name) ps) h = inl tt
below-or_by n (node (algorithm m d) ps) h = elim (cases_lt m n) [
  | inl below ↦ inl below
  | inr above ↦ inr (omega (arith, h, above))
]

module _ (r : Rules) (c : Catalog) (t : Tree Label) where
  -- among the rules below a number, and that one
  pub lesser-IsBestBelow : (n : ℕ) (a b : Option Plan) → IsBestBelow r c t n a → IsBestBy r c t n b → IsBestBelow r c t (n + 1) (lesser (cost r) a b)
  lesser-IsBestBelow n = lesser-IsLeast (cost r) (λ p. Implements r c p t × IsBelow n p) (λ p. Implements r c p t × IsBy n p) (λ p. Implements r c p t × IsBelow (n + 1) p) (record {
    first = λ p h. (h.0, below-more n p h.1);
    second = λ p h. (h.0, by-more n p h.1);
    either = λ p h. elim (below-or_by n p h.1) [ inl below ↦ inl (h.0, below) | inr by ↦ inr (h.0, by) ];
  })

  -- the rules of plans are declared
  declared : (p : Plan) → Implements r c p t → IsBelow (length r.irules) p
  declared (node (file name) ps) done = tt
  declared (node (algorithm n d) ps) (s, step, is, all) =
      let at = option_and_then-some _ (slice_get r.irules n) s step in slice_get_within r.irules n at.0 at.1

  -- so among all rules the cheapest is best
  pub all-IsAnswer : (o : Option Plan) → IsBestBelow r c t (length r.irules) o → IsAnswer r c t o
  all-IsAnswer None none = λ p done. none p (done, declared p done)
  all-IsAnswer (Some p) best = (best.0.0, λ other done. best.1 other (done, declared other done))
