-- Chains of the solutions that may show the same.
use Rattle.std.specs.Prelude.{◌≡◌, ℕ, ◌+◌, ◌*◌, ◌%◌, ◌^◌, ◌<◌, List, [], ◌∷◌, length, Option, Some, None, slice_get}
use Rattle.k_best.specs.Showings.{Showing, shows, input, no_input, shown_at}
use Rattle.k_best.specs.declared.index.Index.{Index}

-- one number of two
abbrev pub mix : ℕ → ℕ → ℕ
mix a b = ((a * 6364136223846793005) % 2 ^ 64 + b) % 2 ^ 64

-- one number of many
abbrev pub mix_all : List ℕ → ℕ
mix_all [] = 0
mix_all (n ∷ ns) = mix (mix_all ns) n

-- the mark of what is shown: a number
abbrev pub mark_of : Showing → ℕ
mark_of (shows face cost inputs) = mix (mix (mark_of inputs) cost) face
mark_of (input first others) = mix (mark_of others) (mark_of first)
mark_of no_input = 0

abbrev pub mark_in : Option ℕ → ℕ
mark_in None = 0
mark_in (Some n) = n

abbrev pub mark_at : List ℕ → ℕ → ℕ
mark_at marks at = mark_in (slice_get marks at)

-- each is the mark of what the solution at that place shows
abbrev pub AreMarks : List Showing → List ℕ → Type 0
AreMarks seen marks = (at : ℕ) → at < length marks → mark_at marks at ≡ mark_of (shown_at seen at)

-- the chain of a solution, out of n
abbrev pub chain_at : ℕ → List Showing → ℕ → ℕ
chain_at n seen at = mark_of (shown_at seen at) % n

-- the last of so many solutions that is of that chain, if one is
abbrev pub IsLast : (ℕ → ℕ) → ℕ → ℕ → Option ℕ → Type 0
IsLast chain end c None = (at : ℕ) → at < end → chain at ≡ c → ⊥
IsLast chain end c (Some last) = (last < end) × (chain last ≡ c)
    × ((at : ℕ) → last < at → at < end → chain at ≡ c → ⊥)

abbrev pub entry_in : Option (Option ℕ) → Option ℕ
entry_in None = None
entry_in (Some o) = o

-- the last of each chain, and for each solution the one before it in its chain
pub record IsIndexed (seen : List Showing) (i : Index) : Type 0 where
  pub are : AreMarks seen i.marks
  pub some : 0 < length i.heads
  pub long : length i.before ≡ length i.marks
  pub last : (c : ℕ) → c < length i.heads
      → IsLast (chain_at (length i.heads) seen) (length i.marks) c (entry_in (slice_get i.heads c))
  pub behind : (at : ℕ) → at < length i.marks → IsLast (chain_at (length i.heads) seen) at
      (chain_at (length i.heads) seen at) (entry_in (slice_get i.before at))

-- no solution behind this one shows what the one at that place shows
abbrev pub IsRest : ℕ → List Showing → ℕ → Option ℕ → Type 0
IsRest n seen at None = (b : ℕ) → b < at → shown_at seen b ≡ shown_at seen at → ⊥
IsRest n seen at (Some next) = (next < at) × (chain_at n seen next ≡ chain_at n seen at)
    × ((b : ℕ) → next < b → b < at → shown_at seen b ≡ shown_at seen at → ⊥)
