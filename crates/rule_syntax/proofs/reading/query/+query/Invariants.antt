use Rattle.std.proofs.Common.{◌≡◌, length, map, ◌+◌, ◌*◌}
use Rattle.rule_syntax.specs.Reading.{listed_at, before}
use Rattle.rule_syntax.specs.ReadingQuery.{query_at}
use Rattle.rule_ast.specs.Seen.{seen_query}
use Rattle.rule_syntax.proofs.reading.query.+query.Given as goal

abbrev pub decreases-query : goal.decreases-query
decreases-query l = 10 * l.levels

abbrev pub decreases-listed_queries : goal.decreases-listed_queries
decreases-listed_queries l = 10 * l.levels + 1

abbrev pub decreases-filled_queries : goal.decreases-filled_queries
decreases-filled_queries l = 10 * l.levels + 2

abbrev pub decreases-operator : goal.decreases-operator
decreases-operator l = 10 * l.levels + 3

abbrev pub decreases-level : goal.decreases-level
decreases-level l = 10 * l.levels + 4

-- what is read so far goes before what the rest gives, and the whole gives just that
abbrev pub invariant-listed_queries-loop-left : goal.invariant-listed_queries-loop-left
invariant-listed_queries-loop-left l =
    listed_at (query_at l.levels) (length l.ts) l.ts ≡ before (map seen_query l.out) (listed_at (query_at l.levels) l.left l.rest)

abbrev pub decreases-listed_queries-loop-left : goal.decreases-listed_queries-loop-left
decreases-listed_queries-loop-left l = l.left
