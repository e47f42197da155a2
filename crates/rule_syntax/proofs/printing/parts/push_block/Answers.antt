use Rattle.rule_syntax.proofs.PrintLaws.{block_pieces}
use Rattle.rule_syntax.proofs.printing.parts.push_block.Goals as goal

pub returns : goal.returns
returns c =
    block_pieces c.args.stmts.now c.args.tokens.now c.push_mark.new.tokens c.push_all.new.tokens c.push_mark-2.new.tokens c.in_ok-push_mark.ensures c.in_ok-push_all.ensures c.in_ok-push_mark-2.ensures
