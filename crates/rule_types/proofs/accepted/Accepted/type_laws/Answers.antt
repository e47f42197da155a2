use Rattle.rule_ast.specs.SeenRules.{seen_rules}
use Rattle.rule_types.proofs.AcceptedTypes.{accepted-types}
use Rattle.rule_types.proofs.accepted.Accepted.type_laws.Goals as goal

pub returns : goal.returns
returns c = record { typed = accepted-types (seen_rules c.args.self.now.rules) c.args.self.now.accepted }
