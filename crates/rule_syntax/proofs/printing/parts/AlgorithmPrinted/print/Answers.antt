use Rattle.std.proofs.Common.{◌++◌, codes}
use Rattle.pr_value.specs.declared.token.Mark.TheVariants.{Slash, Semicolon}
use Rattle.rule_syntax.specs.Tokens.{m, name, num}
use Rattle.rule_syntax.proofs.PrintLaws.{pieces_4}
use Rattle.rule_syntax.proofs.printing.parts.AlgorithmPrinted.print.Goals as goal

pub returns : goal.returns
returns c =
    pieces_4 c.args.tokens.now c.begin.new.tokens c.push_mark.new.tokens c.push_number.new.tokens c.push_mark-2.new.tokens (name (codes "algorithm") ++ name c.args.self.now.name) (m Slash) (num c.args.self.now.arity) (m Semicolon)
    c.in_ok-begin.ensures c.in_ok-push_mark.ensures c.in_ok-push_number.ensures c.in_ok-push_mark-2.ensures
