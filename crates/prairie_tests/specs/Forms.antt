-- Alternatives as data that have the same form.
use Rattle.std.specs.Prelude.{ℕ, ◌&&◌, ◌==◌, min, Bool, true, false, length, Option, Some, None}
use Rattle.pr_value.specs.Capped.{cap}
use Rattle.prairie_tests.specs.declared.ways.Kind.{Kind}
use Rattle.prairie_tests.specs.declared.ways.Kind.TheVariants.{Sum, Least, Product}
use Rattle.prairie_tests.specs.declared.ways.Way.{Way}
use Rattle.prairie_tests.specs.Ways.{inputs_of}

abbrev pub same_kind : Kind → Kind → Bool
same_kind Sum Sum = true
same_kind Least Least = true
same_kind Product Product = true
same_kind _ _ = false

-- the kind, the number up to the cap and the count of inputs are the same
abbrev pub same_ways : ℕ → ℕ → Option Way → ℕ → ℕ → Option Way → Bool
same_ways n g (Some a) m h (Some b) = same_kind a.kind b.kind
    && ((min a.from cap == min b.from cap) && (length (inputs_of n g a) == length (inputs_of m h b)))
same_ways n g (Some a) m h None = false
same_ways n g None m h b = false
