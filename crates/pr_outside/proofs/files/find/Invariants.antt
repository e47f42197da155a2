use Rattle.std.proofs.Common.{◌≡◌}
use Rattle.std.specs.Ordering.{nat_cmp}
use Rattle.std.specs.Cmp.Lexicographic.{slice_cmp}
use Rattle.std.specs.FinMap as map
use Rattle.std.specs.VecDeque.Iter.{deque_iter_rest}
use Rattle.pr_outside.specs.Files.{held_under}
use Rattle.pr_outside.proofs.files.find.Given as goal

abbrev pub invariant-loop-held : goal.invariant-loop-held
invariant-loop-held l = held_under (map.from_entries l.files.items) l.name ≡ map.find (slice_cmp nat_cmp) l.name (deque_iter_rest l.held-iterator)
