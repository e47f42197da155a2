use Rattle.std.proofs.Common.{◌≡◌, map, take}
use Rattle.descriptor_types.specs.Labels.{seen_tree}
use Rattle.plan_form.specs.Plans.{each_asked}
use Rattle.plan_form.proofs.implementing.each_asked.Given as goal

abbrev pub invariant-loop-place : goal.invariant-loop-place
invariant-loop-place l = map seen_tree l.made.items ≡ each_asked l.physical (take l.place l.asked) (map seen_tree l.trees)
