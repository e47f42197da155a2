-- What a walk has found so far, and at one element more.
use Rattle.std.proofs.Common.{◌≡◌, ℕ, ◌+◌, ◌<◌, Bool, ◌||◌, List, length, map, take, get_or, ap, ap₂, sym, ◌∙◌}
use Rattle.std.proofs.lemmas.List.Folds.{list_any_more}
use Rattle.std.specs.List.{list_any}
use Rattle.pr_value.proofs.MemberLaws.{or_assoc}
use Rattle.rule_types.proofs.DeclarationLaws.{list_any-map}

module _ {A B : Type 0} (test : B → Bool) (see : A → B) where
  any_seen : (xs : List A) (i : ℕ) (x : A) → i < length xs → x ≡ get_or xs i x
      → list_any test (map see (take (i + 1) xs)) ≡ (list_any test (map see (take i xs)) || test (see x))
  any_seen xs i x within here =
      list_any-map test see (take (i + 1) xs) ∙ list_any_more (λ y. test (see y)) xs i x within
      ∙ ap₂ (λ a b. a || b) (sym (list_any-map test see (take i xs))) (ap (λ y. test (see y)) (sym here))

  pub any-more : (xs : List A) (i : ℕ) (x : A) (start old new : Bool) → i < length xs → x ≡ get_or xs i x
      → old ≡ (start || list_any test (map see (take i xs))) → new ≡ (old || test (see x)) → new ≡ (start || list_any test (map see (take (i + 1) xs)))
  any-more xs i x start old new within here so_far added =
      added ∙ ap (λ b. b || test (see x)) so_far ∙ sym (or_assoc start (list_any test (map see (take i xs))) (test (see x)))
      ∙ ap (λ b. start || b) (sym (any_seen xs i x within here))
