use Rattle.std.proofs.Common.{◌≡◌, ◌≤◌, length}
use Rattle.rule_lex.specs.Gaps.{after_comment}
use Rattle.rule_lex.proofs.gap.after_line.Given as goal

abbrev pub invariant-loop-first : goal.invariant-loop-first
invariant-loop-first l = (after_comment l.rest ≡ after_comment l.text) × (length l.rest ≤ length l.text)

abbrev pub decreases-loop-first : goal.decreases-loop-first
decreases-loop-first l = length l.rest
