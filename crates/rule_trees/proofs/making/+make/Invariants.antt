use Rattle.std.proofs.Common.{[], drop, length, map}
use Rattle.descriptor_types.specs.Descriptors.{Desc}
use Rattle.descriptor_types.specs.Labels.{file, operator, seen_tree}
use Rattle.pr_value.specs.Trees.{tree, trees_of}
use Rattle.rule_runs.proofs.MakeLaws.{GoesOn}
use Rattle.rule_runs.specs.Laws.{AllSuffice}
use Rattle.rule_runs.specs.SeenSides.{seen_side}
use Rattle.rule_trees.proofs.making.+make.Given as goal

-- those so far are made, and what is left suffices for the rest
abbrev pub invariant-make_all-loop-side : goal.invariant-make_all-loop-side
invariant-make_all-loop-side l = record {
  goes : GoesOn (λ op d ts. tree (operator op d) ts) (tree (file [] []) []) (map (λ t. seen_tree t.now) l.streams) (map seen_side l.sides) l.descs l.side-index (map seen_tree l.trees) l.rest;
  enough : AllSuffice (length l.streams) (length l.rest) (trees_of (drop l.side-index (map seen_side l.sides)));
}
