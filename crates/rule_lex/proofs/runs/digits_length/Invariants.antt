use Rattle.std.proofs.Common.{◌≡◌, ◌+◌, drop}
use Rattle.std.specs.List.{prefix_len}
use Rattle.pr_value.specs.Symbols.{is_digit}
use Rattle.rule_lex.proofs.runs.digits_length.Given as goal

abbrev pub invariant-loop-b : goal.invariant-loop-b
invariant-loop-b l =
    (l.length ≡ l.b-index) × (l.b-index + prefix_len is_digit (drop l.b-index l.text) ≡ prefix_len is_digit l.text)
