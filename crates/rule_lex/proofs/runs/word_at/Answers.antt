use Rattle.std.proofs.Common.{arith}
use Rattle.std.proofs.lemmas.List.Sums.{prefix_len-le-length}
use Rattle.pr_value.specs.Symbols.{is_word_byte}
use Rattle.rule_lex.proofs.RunLaws.{run}
use Rattle.rule_lex.proofs.runs.word_at.Goals as goal

pub split_at-requires : goal.split_at-requires
split_at-requires c = omega (arith, c.word_length.ensures, prefix_len-le-length is_word_byte c.args.text.now)

pub returns : goal.returns
returns c =
    run is_word_byte c.args.text.now c.word_length.result c.split_at.result.0.now c.split_at.result.1.now c.word_length.ensures c.split_at.ensures.front c.split_at.ensures.back
