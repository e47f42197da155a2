use Rattle.rule_ast.specs.SeenRules.{seen_rules}
use Rattle.rule_types.proofs.AcceptedStatements.{accepted-nulls, accepted-own, accepted-physical}
use Rattle.rule_types.proofs.accepted.Accepted.statement_laws.Goals as goal

pub returns-clause-own : goal.returns-clause-own
returns-clause-own c = accepted-own (seen_rules c.args.self.now.rules) c.args.self.now.accepted

pub returns-clause-physical : goal.returns-clause-physical
returns-clause-physical c = accepted-physical (seen_rules c.args.self.now.rules) c.args.self.now.accepted

pub returns-clause-nulls : goal.returns-clause-nulls
returns-clause-nulls c = accepted-nulls (seen_rules c.args.self.now.rules) c.args.self.now.accepted
