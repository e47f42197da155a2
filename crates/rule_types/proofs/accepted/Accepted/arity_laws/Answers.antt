use Rattle.rule_ast.specs.SeenRules.{seen_rules}
use Rattle.rule_types.proofs.AcceptedArities.{accepted-arities, accepted-known}
use Rattle.rule_types.proofs.accepted.Accepted.arity_laws.Goals as goal

pub returns-clause-arities : goal.returns-clause-arities
returns-clause-arities c = accepted-arities (seen_rules c.args.self.now.rules) c.args.self.now.accepted

pub returns-clause-known : goal.returns-clause-known
returns-clause-known c = accepted-known (seen_rules c.args.self.now.rules) c.args.self.now.accepted
