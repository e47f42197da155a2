use Rattle.rule_ast.specs.SeenRules.{seen_rules}
use Rattle.rule_types.proofs.AcceptedCosts.{accepted-assigned, accepted-copies, accepted-costs, accepted-one_cost, accepted-read}
use Rattle.rule_types.proofs.accepted.Accepted.cost_laws.Goals as goal

pub returns-clause-one : goal.returns-clause-one
returns-clause-one c = accepted-one_cost (seen_rules c.args.self.now.rules) c.args.self.now.accepted

pub returns-clause-forms : goal.returns-clause-forms
returns-clause-forms c = accepted-costs (seen_rules c.args.self.now.rules) c.args.self.now.accepted

pub returns-clause-assigned : goal.returns-clause-assigned
returns-clause-assigned c = accepted-assigned (seen_rules c.args.self.now.rules) c.args.self.now.accepted

pub returns-clause-read : goal.returns-clause-read
returns-clause-read c = accepted-read (seen_rules c.args.self.now.rules) c.args.self.now.accepted

pub returns-clause-copies : goal.returns-clause-copies
returns-clause-copies c = accepted-copies (seen_rules c.args.self.now.rules) c.args.self.now.accepted
