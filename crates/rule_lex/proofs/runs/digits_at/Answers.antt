use Rattle.std.proofs.Common.{arith}
use Rattle.std.proofs.lemmas.List.Sums.{prefix_len-le-length}
use Rattle.pr_value.specs.Symbols.{is_digit}
use Rattle.rule_lex.proofs.RunLaws.{run}
use Rattle.rule_lex.proofs.runs.digits_at.Goals as goal

pub split_at-requires : goal.split_at-requires
split_at-requires c = omega (arith, c.digits_length.ensures, prefix_len-le-length is_digit c.args.text.now)

pub returns : goal.returns
returns c =
    run is_digit c.args.text.now c.digits_length.result c.split_at.result.0.now c.split_at.result.1.now c.digits_length.ensures c.split_at.ensures.front c.split_at.ensures.back
