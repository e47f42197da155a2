use Rattle.std.proofs.Common.{ap, ◌∙◌}
use Rattle.pr_value.specs.SymbolSets.{contains}
use Rattle.pr_value.proofs.MemberLaws.{contains-set_of}
use Rattle.rule_types.proofs.roles.physical_of.Goals as goal

pub returns : goal.returns
returns c = λ p.
    ap (λ s. contains s p) c.in_ok-physical.ensures
    ∙ (contains-set_of c.in_ok-names.names.items p ∙ c.in_ok-names.ensures p)
