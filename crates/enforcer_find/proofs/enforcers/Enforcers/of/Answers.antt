use Rattle.std.proofs.Common.{map, ap, ◌∙◌}
use Rattle.rule_ast.specs.Seen.{seen_irule, seen_operator}
use Rattle.enforcer_find.specs.Enforcers.{has_null, rules_of}
use Rattle.enforcer_find.proofs.PlaceLaws.{enforcers_each}
use Rattle.enforcer_find.proofs.enforcers.Enforcers.of.Goals as goal

pub returns-clause-enforcers : goal.returns-clause-enforcers
returns-clause-enforcers c =
    let irules = map seen_irule c.args.rules.now.irules in
    ap (map has_null) c.in_ok-operators.ensures
    ∙ (ap (λ rs. map has_null (map (rules_of (map seen_irule rs)) (map seen_operator c.as_slice.result.now))) c.as_slice-irules.ensures
    ∙ (ap (λ os. map has_null (map (rules_of irules) (map seen_operator os))) c.as_slice.ensures
    ∙ enforcers_each irules c.args.rules.now.operators))
