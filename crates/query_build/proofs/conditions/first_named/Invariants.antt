use Rattle.std.proofs.Common.{◌≡◌, drop, map}
use Rattle.query_build.specs.Refusals.{first_named}
use Rattle.query_build.specs.SeenParts.{seen_part}
use Rattle.query_build.proofs.conditions.first_named.Given as goal

-- the rest decides
abbrev pub invariant-loop-part : goal.invariant-loop-part
invariant-loop-part g l =
    first_named (g.Q.Question.asked l.question) (map seen_part (drop l.part-index l.parts))
    ≡ first_named (g.Q.Question.asked l.question) (map seen_part l.parts)
