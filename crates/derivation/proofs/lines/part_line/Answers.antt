use Rattle.std.proofs.Common.{sym}
use Rattle.derivation.proofs.CodeLaws.{part_none}
use Rattle.derivation.proofs.lines.part_line.Goals as goal

pub returns-in_default-input_at : goal.returns-in_default-input_at
returns-in_default-input_at g c = part_none c.args.terms.now c.args.lines.now c.args.of c.args.at c.in-Some.p (sym c.in-Some.ensures) c.in_default-input_at.ensures
