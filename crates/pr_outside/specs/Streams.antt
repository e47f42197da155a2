-- What is read of a reader and written to a writer.
use Rattle.std.specs.Prelude.{◌≡◌, ℕ, ◌+◌, ◌≤◌, List, length, take, Option, Some, None}
use Rattle.std.specs.Io.KnownBytes.{Appends, Consumes}

-- all that was left, or its first bytes up to one more than `most`
abbrev pub IsReadUpTo : Option (List ℕ) → ℕ → List ℕ → Type 0
IsReadUpTo None most bytes = length bytes ≤ most + 1
IsReadUpTo (Some left) most bytes = bytes ≡ take (most + 1) left

-- these bytes were taken of what was left, at most one more than `most`
abbrev pub TakesUpTo : Option (List ℕ) → Option (List ℕ) → ℕ → List ℕ → Type 0
TakesUpTo old new most bytes = Consumes old new bytes × (length bytes ≤ most + 1)

-- a prefix of the bytes was appended, where the writer tells what it holds
abbrev pub AppendsSome : Option (List ℕ) → Option (List ℕ) → List ℕ → Type 0
AppendsSome old new bytes = (n : ℕ) × (n ≤ length bytes) × Appends old new (take n bytes)
