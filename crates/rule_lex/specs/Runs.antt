-- The longest front of a text whose bytes pass a test.
use Rattle.std.specs.Prelude.{◌≡◌, ℕ, Bool, true, false, List, [], ◌∷◌, ◌++◌}
use Rattle.std.specs.List.{list_all}

-- the text begins with a byte that passes
abbrev pub begins : (ℕ → Bool) → List ℕ → Bool
begins test [] = false
begins test (b ∷ bs) = test b

-- each byte of the front passes, and the first behind it does not
abbrev pub IsRun : (ℕ → Bool) → List ℕ → List ℕ → List ℕ → Type 0
IsRun test text front rest = (text ≡ front ++ rest) × (list_all test front ≡ true) × (begins test rest ≡ false)
