-- What the outside was before a run and is after it.
use Rattle.std.specs.Prelude.{◌≡◌, ℕ, Bool, List, Option, Some, None}
use Rattle.pr_outside.specs.Files.{Files, held_under}

-- the shelf: its files, where it tells them, whether it is sure, and its count of faults before and
-- after
pub record Fetches : Type 0 where
  pub held : Option Files
  pub sure : Bool
  pub before : ℕ
  pub after : ℕ

-- the sink: all that was written, where it tells that, and its count of faults, before and after
pub record Puts : Type 0 where
  pub written_before : Option (List ℕ)
  pub written_after : Option (List ℕ)
  pub before : ℕ
  pub after : ℕ

-- such bytes are held under the name; where the shelf does not tell, there are such bytes, and
-- nothing more is known of them
abbrev pub Told : Option Files → List ℕ → (List ℕ → Type 0) → Type 0
Told None name P = (bytes : List ℕ) × P bytes
Told (Some files) name P = (bytes : List ℕ) × (held_under files name ≡ Some bytes) × P bytes
