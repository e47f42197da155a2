use Rattle.std.proofs.Common.{◌≡◌, drop, length, map, take}
use Rattle.catalog.specs.Contents.{Catalog}
use Rattle.derivation.specs.Stands.{StandAll}
use Rattle.descriptor_types.specs.Labels.{seen_tree}
use Rattle.pr_value.specs.Trees.{trees_of}
use Rattle.tree_terms.specs.Dressed.{dressed}
use Rattle.tree_terms.specs.TermsAdded.{AddsPartsOf}
use Rattle.rule_trees.specs.Trees.{AreTrees}
use Rattle.rule_ast.specs.SeenRules.{seen_rules}
use Rattle.tree_terms.proofs.adding.+add.Given as goal

-- those so far stand for their trees, and the rest are trees of the rules
abbrev pub invariant-add_nodes-loop-tree : goal.invariant-add_nodes-loop-tree
invariant-add_nodes-loop-tree l = record {
  kept : take (length l.initial.terms) l.terms ≡ l.initial.terms;
  stand : StandAll l.terms l.numbers.items (trees_of (map (λ t. dressed (seen_rules l.dressing.rules.now) (seen_tree t)) (take l.tree-index l.trees)));
  parts : AddsPartsOf (map (λ t. dressed (seen_rules l.dressing.rules.now) (seen_tree t)) (take l.tree-index l.trees)) l.initial.terms l.terms;
  trees : (k : Catalog) × AreTrees (seen_rules l.dressing.rules.now) k (trees_of (map seen_tree (drop l.tree-index l.trees)));
}
