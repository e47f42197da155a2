use Rattle.std.proofs.Common.{◌≡◌, ◌+◌, drop}
use Rattle.std.specs.List.{prefix_len}
use Rattle.pr_value.specs.Symbols.{is_word_byte}
use Rattle.rule_lex.proofs.runs.word_length.Given as goal

abbrev pub invariant-loop-b : goal.invariant-loop-b
invariant-loop-b l =
    (l.length ≡ l.b-index) × (l.b-index + prefix_len is_word_byte (drop l.b-index l.text) ≡ prefix_len is_word_byte l.text)
