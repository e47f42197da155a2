-- A fetch that gives nothing.
use Rattle.std.proofs.Common.{ℕ, List, Option, Err}
use Rattle.pr_outside.specs.Fetched.{IsFetched, of_read_error}
use Rattle.pr_outside.specs.declared.streams.ReadError.{ReadError}
use Rattle.pr_outside.specs.declared.streams.ReadError.TheVariants as read

pub unfetched : (old new : Option (List ℕ)) (most taken : ℕ) (e : ReadError) → IsFetched old new most taken (Err (of_read_error e))
unfetched old new most taken read.Failed = tt
unfetched old new most taken read.Memory = tt
