use Rattle.rule_syntax.proofs.PrintLaws.{rules_pieces}
use Rattle.rule_syntax.proofs.printing.rules.push_rules.Goals as goal

pub returns : goal.returns
returns c =
    rules_pieces c.args.rules.now c.as_slice.result.now c.as_slice-2.result.now c.as_slice-3.result.now c.as_slice-4.result.now c.as_slice-5.result.now c.as_slice-6.result.now c.args.tokens.now c.push_all.new.tokens c.push_all-2.new.tokens c.push_all-3.new.tokens c.push_all-4.new.tokens c.push_all-5.new.tokens c.push_all-6.new.tokens c.as_slice.ensures c.as_slice-2.ensures c.as_slice-3.ensures c.as_slice-4.ensures c.as_slice-5.ensures c.as_slice-6.ensures c.in_ok-push_all.ensures c.in_ok-push_all-2.ensures c.in_ok-push_all-3.ensures c.in_ok-push_all-4.ensures c.in_ok-push_all-5.ensures c.in_ok-push_all-6.ensures
