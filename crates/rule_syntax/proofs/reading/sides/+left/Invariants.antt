use Rattle.std.proofs.Common.{◌≡◌, length, map, ◌+◌, ◌*◌}
use Rattle.rule_syntax.specs.Reading.{listed_at, before}
use Rattle.rule_syntax.specs.ReadingSides.{left_at, left_in_at}
use Rattle.rule_ast.specs.Seen.{seen_left_in}
use Rattle.rule_syntax.proofs.reading.sides.+left.Given as goal

abbrev pub decreases-left : goal.decreases-left
decreases-left l = 10 * l.levels

abbrev pub decreases-left_in : goal.decreases-left_in
decreases-left_in l = 10 * l.levels + 1

abbrev pub decreases-listed_left_ins : goal.decreases-listed_left_ins
decreases-listed_left_ins l = 10 * l.levels + 2

abbrev pub decreases-filled_left_ins : goal.decreases-filled_left_ins
decreases-filled_left_ins l = 10 * l.levels + 3

abbrev pub decreases-left_node : goal.decreases-left_node
decreases-left_node l = 10 * l.levels + 4

-- what is read so far goes before what the rest gives, and the whole gives just that
abbrev pub invariant-listed_left_ins-loop-left : goal.invariant-listed_left_ins-loop-left
invariant-listed_left_ins-loop-left l =
    listed_at (left_in_at (left_at l.levels)) (length l.ts) l.ts ≡ before (map seen_left_in l.out) (listed_at (left_in_at (left_at l.levels)) l.left l.rest)

abbrev pub decreases-listed_left_ins-loop-left : goal.decreases-listed_left_ins-loop-left
decreases-listed_left_ins-loop-left l = l.left
