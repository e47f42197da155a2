use Rattle.std.proofs.Common.{◌≡◌, ◌≤◌, length}
use Rattle.rule_lex.specs.Gaps as gaps
use Rattle.rule_lex.proofs.gap.after_gap.Given as goal

abbrev pub invariant-loop-first : goal.invariant-loop-first
invariant-loop-first l = (gaps.after_gap l.rest ≡ gaps.after_gap l.text) × (length l.rest ≤ length l.text)

abbrev pub decreases-loop-first : goal.decreases-loop-first
decreases-loop-first l = length l.rest
