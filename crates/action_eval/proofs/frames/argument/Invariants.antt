use Rattle.std.proofs.Common.{◌≡◌, drop}
use Rattle.action_eval.specs.Meaning.{bound, value_in}
use Rattle.action_eval.proofs.frames.argument.Given as goal

-- what is sought stands among the parameters that are left
abbrev pub invariant-loop-i : goal.invariant-loop-i
invariant-loop-i l = value_in (bound l.params l.args) l.name ≡ value_in (bound (drop l.i l.params) (drop l.i l.args)) l.name
