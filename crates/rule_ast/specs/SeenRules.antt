-- How the definitions see a rule set of the code.
use Rattle.rule_ast.specs.Syntax.{Rules}
use Rattle.rule_ast.specs.Seen.{seen_parts}
use Rattle.rule_ast.specs.declared.rule_set.Rules as rules

abbrev pub seen_rules : rules.Rules → Rules
seen_rules r = seen_parts r.properties r.operators r.algorithms r.helpers r.trules r.irules
