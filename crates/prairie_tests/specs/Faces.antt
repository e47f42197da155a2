-- What is seen of such data.
use Rattle.std.specs.Prelude.{ℕ, ◌-◌, ◌^◌, min, List, Option, Some, None, slice_get}
use Rattle.prairie_tests.specs.declared.ways.Way.{Way}
use Rattle.prairie_tests.specs.Ways.{ways_of}

abbrev pub face_in : Option Way → ℕ
face_in None = 0
face_in (Some way) = min way.from (2 ^ 32 - 1)

-- the number that the cost starts from, up to 2^32 - 1
abbrev pub face_of : List (List Way) → ℕ → ℕ → ℕ
face_of all g k = face_in (slice_get (ways_of all g) k)
