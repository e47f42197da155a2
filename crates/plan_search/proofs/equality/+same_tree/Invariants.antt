use Rattle.std.proofs.Common.{◌≡◌, map, take}
use Rattle.descriptor_types.specs.Labels.{seen_tree}
use Rattle.plan_search.proofs.equality.+same_tree.Given as goal

abbrev pub invariant-same_trees-loop-i : goal.invariant-same_trees-loop-i
invariant-same_trees-loop-i l = map seen_tree (take l.i l.ts) ≡ map seen_tree (take l.i l.others)
