use Rattle.rule_ast.specs.SeenRules.{seen_rules}
use Rattle.rule_types.proofs.AcceptedNames.{accepted-descs, accepted-limits, accepted-names}
use Rattle.rule_types.proofs.accepted.Accepted.name_laws.Goals as goal

pub returns-clause-limits : goal.returns-clause-limits
returns-clause-limits c = accepted-limits (seen_rules c.args.self.now.rules) c.args.self.now.accepted

pub returns-clause-names : goal.returns-clause-names
returns-clause-names c = accepted-names (seen_rules c.args.self.now.rules) c.args.self.now.accepted

pub returns-clause-descs : goal.returns-clause-descs
returns-clause-descs c = accepted-descs (seen_rules c.args.self.now.rules) c.args.self.now.accepted
