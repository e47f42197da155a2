-- What a shelf that tells its files answers, and what a fetch from a reader does.
use Rattle.std.specs.Prelude.{◌≡◌, ℕ, ◌+◌, ◌≤◌, Bool, cond, nat_lt, List, length, Option, Some, None, Result, Ok, Err, ⊤}
use Rattle.std.specs.Io.KnownBytes.{Consumes}
use Rattle.pr_outside.specs.declared.shelf.FetchError.{FetchError}
use Rattle.pr_outside.specs.declared.streams.ReadError.{ReadError}
use Rattle.pr_outside.specs.declared.streams.ReadError.TheVariants as read
use Rattle.pr_outside.specs.declared.shelf.FetchError.TheVariants.{TooLong, Failed, Memory}

-- the answer at what is held, where there is memory for it: to be too long comes before to fail
abbrev pub answer_at : Option (List ℕ) → ℕ → Bool → Result (List ℕ) FetchError
answer_at None most fails = Err Failed
answer_at (Some bytes) most fails = cond (nat_lt most (length bytes)) (Err TooLong) (cond fails (Err Failed) (Ok bytes))

-- the bytes are all that was left, where the reader tells that
abbrev pub AreLeft : Option (List ℕ) → List ℕ → Type 0
AreLeft None bytes = ⊤
AreLeft (Some left) bytes = bytes ≡ left

-- all was taken, at most `most` bytes, and given; or one more than `most` was taken
abbrev pub IsFetched : Option (List ℕ) → Option (List ℕ) → ℕ → ℕ → Result (List ℕ) FetchError → Type 0
IsFetched old new most taken (Ok bytes) = AreLeft old bytes × Consumes old new bytes × (length bytes ≡ taken) × (taken ≤ most)
IsFetched old new most taken (Err TooLong) = (bytes : List ℕ) × Consumes old new bytes × (length bytes ≡ taken) × (taken ≡ most + 1)
IsFetched old new most taken (Err Failed) = ⊤
IsFetched old new most taken (Err Memory) = ⊤

abbrev pub of_read_error : ReadError → FetchError
of_read_error read.Failed = Failed
of_read_error read.Memory = Memory

-- nothing was taken: that failed, or memory was wanting
abbrev pub IsUnfetched : Result (List ℕ) FetchError → Type 0
IsUnfetched (Ok bytes) = ⊥
IsUnfetched (Err TooLong) = ⊥
IsUnfetched (Err Failed) = ⊤
IsUnfetched (Err Memory) = ⊤
