use Rattle.std.proofs.Common.{map}
use Rattle.rule_syntax.specs.Levels.{most_levels}
use Rattle.rule_ast.specs.Seen.{seen_operator, seen_helper, seen_trule, seen_irule}
use Rattle.rule_syntax.proofs.RulesLaws.{sections_spelled}
use Rattle.rule_syntax.proofs.reading.rules.whole.Goals as goal

pub invariant_of-result : goal.invariant_of-result
invariant_of-result c = record {
  spelled =
      sections_spelled most_levels c.args.ts.now c.in_ok-properties.rest.now c.in_ok-operators.rest.now c.in_ok-algorithms.rest.now c.in_ok-helpers.rest.now c.in_ok-trules.rest.now c.in_ok-irules.rest.now
      c.in_ok-properties.properties (map seen_operator c.in_ok-operators.operators) c.in_ok-algorithms.algorithms (map seen_helper c.in_ok-helpers.helpers) (map seen_trule c.in_ok-trules.trules) (map seen_irule c.in_ok-irules.irules)
      c.in_ok-properties.ensures c.in_ok-operators.ensures c.in_ok-algorithms.ensures c.in_ok-helpers.ensures c.in_ok-trules.ensures c.in_ok-irules.ensures;
}
