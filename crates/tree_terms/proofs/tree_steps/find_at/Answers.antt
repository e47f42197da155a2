use Rattle.rule_ast.specs.SeenRules.{seen_rules}
use Rattle.rule_runs.specs.SeenSides.{seen_side}
use Rattle.tree_terms.proofs.RootLaws.{found-alike}
use Rattle.tree_terms.proofs.tree_steps.find_at.Goals as goal

pub returns : goal.returns
returns c = found-alike (seen_rules c.args.under.now.rules.now) c.args.terms.now (seen_side c.args.side.now) c.args.node c.find_match.result c.find_match.ensures
