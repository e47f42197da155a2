use Rattle.std.proofs.Common.{refl}
use Rattle.derivation.proofs.SaysLaws.{adds_ok, bad_reason, pushed_there}
use Rattle.derivation.proofs.log.Log.push.Goals as goal

pub returns-clause-bad : goal.returns-clause-bad
returns-clause-bad g c = rw (← c.self.view_is)
    (bad_reason (g.S.Steps.stepped c.self.inside.steps) c.self.inside.terms c.push_line.new.terms c.self.inside.steps c.self.inside.query c.self.inside.lines.items c.push_line.new.lines.items c.args.why c.push_line.result c.sound.ensures.distinct c.push_line.ensures.bad c.push_line.ensures.err)

pub returns-clause-justified : goal.returns-clause-justified
returns-clause-justified g c = rw (← c.self.view_is)
    (adds_ok (g.S.Steps.stepped c.self.inside.steps)
    (record { terms = c.self.inside.terms; steps = c.self.inside.steps; query = c.self.inside.query; lines = c.self.inside.lines.items })
    (record { terms = c.push_line.new.terms; steps = c.self.inside.steps; query = c.self.inside.query; lines = c.push_line.new.lines.items }) c.args.why c.push_line.result refl c.push_line.ensures.kept c.push_line.ensures.ok)

pub returns-clause-there : goal.returns-clause-there
returns-clause-there g c = pushed_there (g.S.Steps.stepped c.self.inside.steps) c.push_line.new.terms c.self.inside.query c.self.inside.lines.items c.push_line.new.lines.items c.args.why c.push_line.result c.push_line.ensures.ok
