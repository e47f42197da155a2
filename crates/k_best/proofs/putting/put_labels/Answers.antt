use Rattle.std.proofs.Common.{sym, subst}
use Rattle.best_plan.specs.Solutions.{AreSound}
use Rattle.k_best.proofs.putting.put_labels.Goals as goal

pub put_label-requires-clause-sound : goal.put_label-requires-clause-sound
put_label-requires-clause-sound g c = subst (AreSound (g.M.Choices.graph c.args.moves.now)) (sym c.loop-at.invariant.solutions) c.requires.sound
