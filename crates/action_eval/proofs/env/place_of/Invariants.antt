use Rattle.std.proofs.Common.{◌≡◌, None, take}
use Rattle.action_eval.specs.Names.{desc_place}
use Rattle.action_eval.proofs.env.place_of.Given as goal

abbrev pub invariant-loop-i : goal.invariant-loop-i
invariant-loop-i l = desc_place (take l.i l.descs) l.name ≡ None
