use Rattle.std.proofs.Common.{rules}
use Rattle.derivation.proofs.CodeLaws.{part_made}
use Rattle.derivation.proofs.lines.with_input.Goals as goal

pub returns-clause-made : goal.returns-clause-made
returns-clause-made g c = part_made c.args.terms.now c.add.new.self c.args.n c.args.at c.args.by c.in_ok-made.made c.in_ok-label.label c.in_ok-label.inputs.items c.as_slice.result.now c.in_ok-label.ensures c.in_ok-made.ensures.added c.in_ok-made.ensures.at (let w = c.index_mut.ensures in let a = c.as_slice.ensures.value in search rules)
