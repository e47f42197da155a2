-- What stands between the parts of a list.
use Rattle.std.specs.Prelude.{ℕ, zero, suc, List, []}

-- what stands before the part at a place: nothing before the first
abbrev pub before_part : {A : Type 0} → ℕ → List A → List A
before_part zero between = []
before_part (suc i) between = between
