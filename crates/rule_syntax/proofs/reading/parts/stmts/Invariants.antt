use Rattle.std.proofs.Common.{◌≡◌, length, map}
use Rattle.pr_value.specs.declared.token.Mark.TheVariants.{CloseBrace}
use Rattle.rule_syntax.specs.Levels.{most_levels}
use Rattle.rule_syntax.specs.Reading.{unmarked, many_at, before}
use Rattle.rule_syntax.specs.ReadingParts.{stmt_at}
use Rattle.rule_ast.specs.Seen.{seen_stmt}
use Rattle.rule_syntax.proofs.reading.parts.stmts.Given as goal

-- what is read so far goes before what the rest gives, and the whole gives just that
abbrev pub invariant-loop-alloc : goal.invariant-loop-alloc
invariant-loop-alloc l = many_at (unmarked CloseBrace) (stmt_at most_levels) (length l.ts) l.ts ≡ before (map seen_stmt l.out) (many_at (unmarked CloseBrace) (stmt_at most_levels) l.left l.rest)

abbrev pub decreases-loop-alloc : goal.decreases-loop-alloc
decreases-loop-alloc l = l.left
