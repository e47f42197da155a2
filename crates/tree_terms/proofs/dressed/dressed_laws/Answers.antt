use Rattle.rule_ast.specs.SeenRules.{seen_rules}
use Rattle.tree_terms.proofs.DressedLaws.{back, disagree_dressed, forth, higher_dressed, only_dressed, quiet_dressed, spent_dressed}
use Rattle.tree_terms.proofs.DressedSteps.{steps_are_dressed}
use Rattle.tree_terms.proofs.JoinedTrees.{joined-trees}
use Rattle.rule_trees.proofs.StepLaws.{step-IsTree}
use Rattle.tree_terms.proofs.StopLaws.{full_dressed, loop_dressed}
use Rattle.tree_terms.proofs.dressed.dressed_laws.Goals as goal

pub returns-clause-keep : goal.returns-clause-keep
returns-clause-keep c n t u is e = step-IsTree (seen_rules c.args.a.now.rules) c.args.catalog.now c.rules-rules.ensures.accepted n t u is e

pub returns-clause-trees : goal.returns-clause-trees
returns-clause-trees c q t u k is p =
    let r = seen_rules c.args.a.now.rules in
    joined-trees r c.args.catalog.now (step-IsTree r c.args.catalog.now c.rules-rules.ensures.accepted) q is k t u p

pub returns-clause-steps : goal.returns-clause-steps
returns-clause-steps c n t is = steps_are_dressed (seen_rules c.args.a.now.rules) c.args.catalog.now n t is

pub returns-clause-joined : goal.returns-clause-joined
returns-clause-joined c q t u k is =
    let r = seen_rules c.args.a.now.rules in
    let trees = joined-trees r c.args.catalog.now (step-IsTree r c.args.catalog.now c.rules-rules.ensures.accepted) q is in
    let steps = steps_are_dressed r c.args.catalog.now in
    (λ p. forth r c.args.catalog.now q steps trees p, λ p. back r c.args.catalog.now q steps trees k t u p)

pub returns-clause-only : goal.returns-clause-only
returns-clause-only c q v w k is p =
    let r = seen_rules c.args.a.now.rules in
    only_dressed r c.args.catalog.now q (steps_are_dressed r c.args.catalog.now) (joined-trees r c.args.catalog.now (step-IsTree r c.args.catalog.now c.rules-rules.ensures.accepted) q is) p

pub returns-clause-stops : goal.returns-clause-stops
returns-clause-stops c q is =
    let r = seen_rules c.args.a.now.rules in
    let cat = c.args.catalog.now in
    let trees = joined-trees r cat (step-IsTree r cat c.rules-rules.ensures.accepted) q is in
    let steps = steps_are_dressed r cat in
    record {
      quiet = quiet_dressed r cat q steps trees;
      spent = spent_dressed r cat q steps trees;
      full = full_dressed r cat q steps trees;
      disagree = disagree_dressed r cat q steps trees;
      loop = loop_dressed r cat q steps trees;
      higher = higher_dressed r cat q steps trees;
    }
