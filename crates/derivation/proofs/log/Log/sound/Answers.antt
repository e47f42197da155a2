use Rattle.derivation.proofs.SaysLaws.{are_joined}
use Rattle.derivation.proofs.log.Log.sound.Goals as goal

pub returns-clause-joined : goal.returns-clause-joined
returns-clause-joined g c = rw (← c.self.view_is) (are_joined (g.S.Steps.stepped c.self.inside.steps) (record { terms = c.self.inside.terms; steps = c.self.inside.steps; query = c.self.inside.query; lines = c.self.inside.lines.items }) c.self.invariant)
