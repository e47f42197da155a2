use Rattle.std.proofs.Common.{◌≡◌, drop, length, map, take}
use Rattle.pr_value.specs.Trees.{trees_of}
use Rattle.rule_ast.specs.SeenRules.{seen_rules}
use Rattle.rule_runs.specs.Laws.{AllSuffice}
use Rattle.rule_runs.specs.SeenSides.{seen_side}
use Rattle.tree_terms.proofs.TermMadeLaws.{MadeSoFar}
use Rattle.rule_trees.specs.Arities.{HaveArities}
use Rattle.tree_terms.proofs.term_making.+make_terms.Given as goal

-- those so far stand for what they make, and what is left suffices for the rest
abbrev pub invariant-make_terms-loop-side : goal.invariant-make_terms-loop-side
invariant-make_terms-loop-side l = record {
  kept : take (length l.initial.terms) l.terms ≡ l.initial.terms;
  made : MadeSoFar (seen_rules l.dressing.rules.now) l.streams l.initial.terms (map seen_side l.sides) l.descs l.side-index l.terms l.numbers.items l.rest;
  right : HaveArities (seen_rules l.dressing.rules.now) (trees_of (drop l.side-index (map seen_side l.sides)));
  enough : AllSuffice (length l.streams) (length l.rest) (trees_of (drop l.side-index (map seen_side l.sides)));
}
