-- A log with more lines, none deeper than those before.
use Rattle.std.specs.Prelude.{◌≡◌, ℕ, ◌≤◌, List, length, take, Some, slice_get}
use Rattle.derivation.specs.Log.{LogValue}
use Rattle.derivation.specs.Made.{IsInput, PartOf}
use Rattle.derivation.specs.declared.reason.Line.{Line}
use Rattle.memo.specs.Forest.{HasLine, EndsAt}

-- each of the lines is no deeper than some line before
abbrev pub AreNoDeeper : List Line → List Line → Type 0
AreNoDeeper old new = (i : ℕ) (l : Line) → slice_get new i ≡ Some l → (j : ℕ) × (m : Line) × (slice_get old j ≡ Some m) × (l.depth ≤ m.depth)

-- the terms and lines of the one are the first of the other
abbrev pub Begins : {L S : Type 0} → LogValue L S → LogValue L S → Type 0
Begins old new = (take (length old.terms) new.terms ≡ old.terms) × (take (length old.lines) new.lines ≡ old.lines)

pub record Grew {L S : Type 0} (old new : LogValue L S) : Type 0 where
  pub steps : new.steps ≡ old.steps
  pub query : new.query ≡ old.query
  pub terms : take (length old.terms) new.terms ≡ old.terms
  pub lines : take (length old.lines) new.lines ≡ old.lines
  pub shallow : AreNoDeeper old.lines new.lines

module _ {L S : Type 0} (old new : LogValue L S) where
  abbrev pub Chains : ℕ → ℕ → ℕ → Type 0
  Chains first second i = (m k n : ℕ) → HasLine old.lines first m k → HasLine old.lines second k n → HasLine new.lines i m n

  abbrev pub Turns : ℕ → ℕ → Type 0
  Turns of i = (m n : ℕ) → HasLine old.lines of m n → HasLine new.lines i n m

  abbrev pub Insides : ℕ → ℕ → ℕ → ℕ → Type 0
  Insides of at by i = (m n k v : ℕ) → HasLine old.lines of m n → IsInput old.terms n at k → HasLine old.lines by k v → (u : ℕ) × HasLine new.lines i n u × PartOf new.terms n at v u

  abbrev pub Stills : ℕ → ℕ → Type 0
  Stills of i = (n : ℕ) → EndsAt old.lines of n → HasLine new.lines i n n

  abbrev pub IsEnd : ℕ → ℕ → Type 0
  IsEnd of n = EndsAt old.lines of n
