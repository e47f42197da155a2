use Rattle.std.proofs.Common.{◌≡◌, length, map, ◌+◌, ◌*◌}
use Rattle.rule_syntax.specs.Reading.{listed_at, before}
use Rattle.rule_syntax.specs.ReadingSides.{right_at, right_in_at}
use Rattle.rule_ast.specs.Seen.{seen_right_in}
use Rattle.rule_syntax.proofs.reading.sides.+right.Given as goal

abbrev pub decreases-right : goal.decreases-right
decreases-right l = 10 * l.levels

abbrev pub decreases-right_in : goal.decreases-right_in
decreases-right_in l = 10 * l.levels + 1

abbrev pub decreases-listed_right_ins : goal.decreases-listed_right_ins
decreases-listed_right_ins l = 10 * l.levels + 2

abbrev pub decreases-filled_right_ins : goal.decreases-filled_right_ins
decreases-filled_right_ins l = 10 * l.levels + 3

abbrev pub decreases-right_node : goal.decreases-right_node
decreases-right_node l = 10 * l.levels + 4

-- what is read so far goes before what the rest gives, and the whole gives just that
abbrev pub invariant-listed_right_ins-loop-left : goal.invariant-listed_right_ins-loop-left
invariant-listed_right_ins-loop-left l =
    listed_at (right_in_at (right_at l.levels)) (length l.ts) l.ts ≡ before (map seen_right_in l.out) (listed_at (right_in_at (right_at l.levels)) l.left l.rest)

abbrev pub decreases-listed_right_ins-loop-left : goal.decreases-listed_right_ins-loop-left
decreases-listed_right_ins-loop-left l = l.left
