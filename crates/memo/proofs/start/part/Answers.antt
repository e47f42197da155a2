use Rattle.memo.proofs.GrewLaws.{grew_none}
use Rattle.memo.proofs.StartLaws.{part_grew}
use Rattle.memo.proofs.start.part.Goals as goal

pub returns-in-Ok-clause-grew : goal.returns-in-Ok-clause-grew
returns-in-Ok-clause-grew g c = (part_grew (g.S.Steps.stepped c.args.log.now.steps) c.args.log.now c.push.new.self c.push.ensures.same c.push.ensures.kept c.args.of c.args.at c.in-Ok.i c.in-Ok.ensures.ok).0

pub returns-in-Ok-clause-line : goal.returns-in-Ok-clause-line
returns-in-Ok-clause-line g c = (part_grew (g.S.Steps.stepped c.args.log.now.steps) c.args.log.now c.push.new.self c.push.ensures.same c.push.ensures.kept c.args.of c.args.at c.in-Ok.i c.in-Ok.ensures.ok).1

pub returns-in-Err-clause-grew : goal.returns-in-Err-clause-grew
returns-in-Err-clause-grew g c = grew_none (g.S.Steps.stepped c.args.log.now.steps) c.args.log.now c.push.new.self c.push.ensures.same c.push.ensures.kept c.in-Err.ensures.err
