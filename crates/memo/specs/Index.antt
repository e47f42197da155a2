-- The index of expressions by label and input classes.
use Rattle.std.specs.Prelude.{◌≡◌, ℕ, List, [], ◌∷◌, ◌++◌, Some, slice_get, Option, None, MatchOption, Bool}
use Rattle.std.specs.Map.{lookup}
use Rattle.derivation.specs.declared.terms.Term.{Term}

module _ {L : Type 0} (entries : List (Term L × ℕ)) where
  -- the key leads to the number
  abbrev pub IsEntry : Term L → ℕ → Type 0
  IsEntry key i = (n : ℕ) × (slice_get entries n ≡ Some (key, i))

  -- the key leads nowhere
  abbrev pub IsAbsent : Term L → Type 0
  IsAbsent key = (i : ℕ) → IsEntry key i → ⊥

  -- what the key leads to; where it led nowhere, it now leads to the number
  abbrev pub Enters : List (Term L × ℕ) → Term L → ℕ → Option ℕ → Type 0
  Enters new key i found = MatchOption found ((new ≡ entries ++ (key, i) ∷ []) × IsAbsent key) (λ f. (new ≡ entries) × IsEntry key f)

-- looking a key up by the test finds just what it leads to
pub record LooksUp {L : Type 0} (same : Term L → Term L → Bool) : Type 0 where
  pub found : (es : List (Term L × ℕ)) (key : Term L) (i : ℕ) → lookup (same key) es ≡ Some i → IsEntry es key i
  pub absent : (es : List (Term L × ℕ)) (key : Term L) → lookup (same key) es ≡ None → IsAbsent es key
