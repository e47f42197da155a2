use Rattle.std.proofs.Common.{◌≡◌, ◌+◌, drop}
use Rattle.rule_runs.specs.Sides.{place_in}
use Rattle.rule_runs.proofs.sides.place_in.Given as goal

-- it stands among the rest
abbrev pub invariant-loop-place : goal.invariant-loop-place
invariant-loop-place l = place_in l.numbers l.number ≡ l.place + place_in (drop l.place l.numbers) l.number
