use Rattle.std.proofs.Common.{rules}
use Rattle.derivation.proofs.CodeLaws.{input_told}
use Rattle.derivation.proofs.lines.input_at.Goals as goal

pub returns-in-Some : goal.returns-in-Some
returns-in-Some g c = input_told c.args.terms.now c.args.n c.args.at c.in-Some.term.now c.place_of.result (search rules) (let s = c.as_slice.ensures in let p = c.place_of.ensures in search rules)
