use Rattle.std.proofs.Common.{◌≡◌, [], None, ap, sym, ◌∙◌, subst}
use Rattle.std.proofs.lemmas.Bool.{false≢true}
use Rattle.rule_ast.specs.SeenRules.{seen_rules}
use Rattle.rule_ast.specs.declared.rule_set.Rules.{Rules}
use Rattle.rule_types.specs.Conditions.{refused_by}
use Rattle.prairie_top.proofs.reading.accepted.Goals as goal

pub returns-then-not-is_without_trules : goal.returns-then-not-is_without_trules
returns-then-not-is_without_trules c =
    let lent : c.rules.result.now ≡ c.args.rules = c.rules.ensures.same ∙ c.in-Ok.ensures.accepted in (
      subst (λ (r : Rules). refused_by (seen_rules r) ≡ None) c.in-Ok.ensures.accepted c.rules.ensures.accepted,
      λ none. false≢true (sym c.if-not-is_without_trules.true ∙ c.is_without_trules.ensures.1 (subst (λ (r : Rules). (seen_rules r).trules ≡ []) (sym lent) none)),
    )

pub returns-else-not-is_without_trules : goal.returns-else-not-is_without_trules
returns-else-not-is_without_trules c =
    let lent : c.rules.result.now ≡ c.args.rules = c.rules.ensures.same ∙ c.in-Ok.ensures.accepted in (
      ap seen_rules c.in-Ok.ensures.accepted,
      (
        subst (λ (r : Rules). refused_by (seen_rules r) ≡ None) c.in-Ok.ensures.accepted c.rules.ensures.accepted,
        subst (λ (r : Rules). (seen_rules r).trules ≡ []) lent (c.is_without_trules.ensures.0 c.if-not-is_without_trules.false),
      ),
    )
