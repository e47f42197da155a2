use Rattle.std.proofs.Common.{map}
use Rattle.rule_runs.specs.SeenMatches.{seen_matched}
use Rattle.rule_runs.specs.SeenSides.{seen_side}
use Rattle.rule_runs.proofs.FindLaws.{ComesTo}
use Rattle.rule_runs.proofs.matching.+find.Given as goal

-- what the rest comes to is what all come to
abbrev pub invariant-find_all-loop-place : goal.invariant-find_all-loop-place
invariant-find_all-loop-place g l =
    let roots = g.R.Roots.roots l.roots in
    ComesTo roots (map seen_side l.sides) (roots.inputs (g.R.Roots.seen l.a)) l.place (seen_matched g.R.Roots.seen l.fn.out) (seen_matched g.R.Roots.seen l.out)
