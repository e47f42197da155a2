use Rattle.std.proofs.Common.{ℕ, ◌≤◌, max, sym, ◌∙◌, arith}
use Rattle.derivation.proofs.JoinedLaws.{raise}
use Rattle.derivation.specs.Joined.{chain, turn}
use Rattle.rule_ast.specs.SeenRules.{seen_rules}
use Rattle.rule_trees.proofs.AskedMatches.{irules-begin}
use Rattle.tree_terms.proofs.GoalLaws.{goals-trees}
use Rattle.tree_terms.proofs.JoinedTrees.{joined-trees}
use Rattle.rule_trees.proofs.StepLaws.{step-IsTree}
use Rattle.rule_trees.specs.Steps.{step}
use Rattle.tree_terms.proofs.goals.goal_laws.Goals as goal

pub returns-clause-trees : goal.returns-clause-trees
returns-clause-trees c q t v is asked =
    let r = seen_rules c.args.a.now.rules in
    let accepted = c.rules-rules.ensures.accepted in
    let trees = joined-trees r c.args.catalog.now (step-IsTree r c.args.catalog.now accepted) q is in
    goals-trees r c.args.catalog.now accepted (irules-begin c.args.a.now.rules.irules) q is trees asked

pub returns-clause-turns : goal.returns-clause-turns
returns-clause-turns c q g h same = ((same.0.0, turn same.0.1), sym same.1)

pub returns-clause-chains : goal.returns-clause-chains
returns-clause-chains c q g h k one other =
    let s = step (seen_rules c.args.a.now.rules) c.args.catalog.now in
    let deep : ℕ = max one.0.0 other.0.0 in
    let low : one.0.0 ≤ deep = omega arith in
    let lower : other.0.0 ≤ deep = omega arith in
    ((deep, chain (raise s q low one.0.1) (raise s q lower other.0.1)), one.1 ∙ other.1)
