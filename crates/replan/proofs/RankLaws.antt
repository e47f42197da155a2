-- The goals so far, and one more.
use Rattle.std.proofs.Common.{◌≡◌, ℕ, ◌+◌, ◌<◌, ◌⊎◌, List, [], ◌∷◌, ◌++◌, Contains, refl, ap, sym, ◌∙◌, subst, arith, inl, inr}
use Rattle.std.proofs.lemmas.Bool.{cases_eq}
use Rattle.std.proofs.lemmas.List.Elements.{Contains-append_left, Contains-push, Contains-push_cases}
use Rattle.replan.specs.declared.ranked.Ranked.{Ranked}

-- a goal with its rank
abbrev pub ranked : (ℕ → ℕ) → ℕ → Ranked
ranked rank g = record { rank = rank g; goal = g }

module _ (rank : ℕ → ℕ) (n : ℕ) (x : Ranked) (is : x ≡ ranked rank n) (rs rs' : List Ranked) (pushed : rs' ≡ rs ++ x ∷ []) where
  pub all_more : ((h : ℕ) → h < n → Contains rs (ranked rank h)) → (h : ℕ) → h < n + 1 → Contains rs' (ranked rank h)
  all_more all h l = subst (λ ys. Contains ys (ranked rank h)) (sym pushed) (by_same (cases_eq h n)) where
    by_same : (h ≡ n) ⊎ (h ≡ n → ⊥) → Contains (rs ++ x ∷ []) (ranked rank h)
    by_same (inl e) = subst (λ y. Contains (rs ++ x ∷ []) y) (is ∙ ap (ranked rank) (sym e)) (Contains-push rs x)
    by_same (inr d) = Contains-append_left rs (x ∷ []) (ranked rank h) (all h (omega (arith, l, d)))

  pub only_more : ((r : Ranked) → Contains rs r → (r.goal < n) × (r.rank ≡ rank r.goal)) → (r : Ranked) → Contains rs' r → (r.goal < n + 1) × (r.rank ≡ rank r.goal)
  only_more only r c = by_place (Contains-push_cases rs x r (subst (λ ys. Contains ys r) pushed c)) where
    by_place : Contains rs r ⊎ (x ≡ r) → (r.goal < n + 1) × (r.rank ≡ rank r.goal)
    by_place (inl b) = (let w = only r b in (omega (arith, w.0), w.1))
    by_place (inr e) = subst (λ (y : Ranked). (y.goal < n + 1) × (y.rank ≡ rank y.goal)) (sym is ∙ e) (omega arith, refl)
