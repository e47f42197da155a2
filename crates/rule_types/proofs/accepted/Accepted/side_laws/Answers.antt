use Rattle.rule_ast.specs.SeenRules.{seen_rules}
use Rattle.rule_types.proofs.AcceptedSides.{accepted-sides}
use Rattle.rule_types.proofs.accepted.Accepted.side_laws.Goals as goal

pub returns : goal.returns
returns c = record { sides = accepted-sides (seen_rules c.args.self.now.rules) c.args.self.now.accepted }
