use Rattle.std.proofs.Common.{◌≡◌, length}
use Rattle.rule_syntax.specs.Reading.{listed_at, before}
use Rattle.rule_syntax.proofs.reading.lists.listed.Given as goal

-- what is read so far goes before what the rest gives, and the whole gives just that
abbrev pub invariant-loop-left : goal.invariant-loop-left
invariant-loop-left g l =
    let part = g.P.Parts in
    listed_at part.reads (length l.ts) l.ts ≡ before (part.all_seen l.out) (listed_at part.reads l.left l.rest)

abbrev pub decreases-loop-left : goal.decreases-loop-left
decreases-loop-left g l = l.left
