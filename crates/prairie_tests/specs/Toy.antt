-- A rule over numbers as labels: rule 0 turns the label 1 at a root into 2.
use Rattle.std.specs.Prelude.{ℕ, zero, suc, Option, Some, None, ◌==◌, if◌then◌else◌}
use Rattle.pr_value.specs.Trees.{Tree, node}

abbrev pub toy_step : ℕ → Tree ℕ → Option (Tree ℕ)
toy_step zero (node l ts) = if l == 1 then Some (node 2 ts) else None
toy_step (suc rule) t = None
