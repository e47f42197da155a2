use Rattle.std.proofs.Common.{◌≡◌, length, map, ◌+◌, ◌*◌}
use Rattle.rule_syntax.specs.Reading.{listed_at, before}
use Rattle.rule_syntax.specs.ReadingExpr.{expr_at}
use Rattle.rule_ast.specs.Seen.{seen_expr}
use Rattle.rule_syntax.proofs.reading.expr.+expr.Given as goal

abbrev pub decreases-expr : goal.decreases-expr
decreases-expr l = 10 * l.levels

abbrev pub decreases-listed_exprs : goal.decreases-listed_exprs
decreases-listed_exprs l = 10 * l.levels + 1

abbrev pub decreases-filled_exprs : goal.decreases-filled_exprs
decreases-filled_exprs l = 10 * l.levels + 2

abbrev pub decreases-closed_exprs : goal.decreases-closed_exprs
decreases-closed_exprs l = 10 * l.levels + 3

abbrev pub decreases-binary : goal.decreases-binary
decreases-binary l = 10 * l.levels + 2

abbrev pub decreases-folded : goal.decreases-folded
decreases-folded l = 10 * l.levels + 2

abbrev pub decreases-operand : goal.decreases-operand
decreases-operand l = 10 * l.levels + 1

abbrev pub decreases-each : goal.decreases-each
decreases-each l = 10 * l.levels + 1

abbrev pub decreases-named : goal.decreases-named
decreases-named l = 10 * l.levels + 4

abbrev pub decreases-level : goal.decreases-level
decreases-level l = 10 * l.levels + 5

-- what is read so far goes before what the rest gives, and the whole gives just that
abbrev pub invariant-listed_exprs-loop-left : goal.invariant-listed_exprs-loop-left
invariant-listed_exprs-loop-left l =
    listed_at (expr_at l.levels) (length l.ts) l.ts ≡ before (map seen_expr l.out) (listed_at (expr_at l.levels) l.left l.rest)

abbrev pub decreases-listed_exprs-loop-left : goal.decreases-listed_exprs-loop-left
decreases-listed_exprs-loop-left l = l.left
