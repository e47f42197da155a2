use Rattle.std.proofs.Common.{◌≡◌}
use Rattle.std.specs.Ordering.{nat_cmp}
use Rattle.std.specs.FinMap as map
use Rattle.std.specs.VecDeque.Iter.{deque_iter_rest}
use Rattle.pr_outside.proofs.mem_sink.taken_at.Given as goal

abbrev pub invariant-loop-listed : goal.invariant-loop-listed
invariant-loop-listed l = map.get (map.from_entries {R = nat_cmp} l.failing.items) l.call ≡ map.find nat_cmp l.call (deque_iter_rest l.listed-iterator)
