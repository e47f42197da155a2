use Rattle.std.proofs.Common.{◌≡◌, length}
use Rattle.rule_syntax.specs.Reading.{begins, many_at, before}
use Rattle.rule_syntax.proofs.reading.lists.section.Given as goal

-- what is read so far goes before what the rest gives, and the whole gives just that
abbrev pub invariant-loop-alloc : goal.invariant-loop-alloc
invariant-loop-alloc g l =
    let part = g.P.Parts in
    many_at (begins l.word) part.reads (length l.ts) l.ts ≡ before (part.all_seen l.out) (many_at (begins l.word) part.reads l.left l.rest)

abbrev pub decreases-loop-alloc : goal.decreases-loop-alloc
decreases-loop-alloc g l = l.left
