use Rattle.std.proofs.Common.{◌≡◌, ◌+◌, drop, map}
use Rattle.rule_ast.specs.Seen.{seen_operator}
use Rattle.rule_runs.specs.Sides.{operator_at}
use Rattle.rule_runs.proofs.sides.operator_at.Given as goal

-- it stands among the rest
abbrev pub invariant-loop-place : goal.invariant-loop-place
invariant-loop-place l =
    operator_at (map seen_operator l.operators) l.name
    ≡ l.place + operator_at (map seen_operator (drop l.place l.operators)) l.name
