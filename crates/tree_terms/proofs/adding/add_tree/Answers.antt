use Rattle.std.proofs.Common.{subst}
use Rattle.descriptor_types.specs.Labels.{seen_tree}
use Rattle.tree_terms.specs.Dressed.{dressed}
use Rattle.tree_terms.specs.TermsAdded.{AddsParts}
use Rattle.rule_ast.specs.SeenRules.{seen_rules}
use Rattle.rule_ast.specs.declared.rule_set.Rules as rules
use Rattle.tree_terms.proofs.adding.add_tree.Goals as goal

pub returns-clause-parts : goal.returns-clause-parts
returns-clause-parts c = subst (λ (rs : rules.Rules). AddsParts (dressed (seen_rules rs) (seen_tree c.args.t.now)) c.args.terms.now c.add_node.new.terms) c.new-dressing.ensures c.in_ok-number.ensures.parts
