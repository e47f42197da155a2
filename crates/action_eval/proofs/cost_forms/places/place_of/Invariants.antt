use Rattle.std.proofs.Common.{◌≡◌, ◌+◌, drop}
use Rattle.rule_ast.specs.Descs.{names_of}
use Rattle.action_eval.specs.Forms.{place}
use Rattle.action_eval.proofs.cost_forms.places.place_of.Given as goal

abbrev pub invariant-loop-place : goal.invariant-loop-place
invariant-loop-place l = l.place + place (names_of (drop l.place l.inputs)) l.desc ≡ place (names_of l.inputs) l.desc
