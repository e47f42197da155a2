use Rattle.rule_syntax.proofs.PrintableLaws.{has_texts}
use Rattle.rule_syntax.proofs.QueryLaws.{distinct_queries}
use Rattle.rule_syntax.proofs.RulesLaws.{distinct_rules}
use Rattle.rule_syntax.proofs.laws.spelling_laws.Goals as goal

pub returns : goal.returns
returns c = record { rules = distinct_rules; queries = distinct_queries; texts = has_texts }
