use Rattle.std.proofs.Common.{ap, ◌∙◌}
use Rattle.pr_value.specs.SymbolSets.{contains}
use Rattle.pr_value.proofs.MemberLaws.{contains-set_of}
use Rattle.rule_types.proofs.roles.enforcers_of.Goals as goal

pub returns : goal.returns
returns c = λ op.
    ap (λ s. contains s op) c.in_ok-enforcers.ensures
    ∙ (contains-set_of c.in_ok-names.names.items op ∙ c.in_ok-names.ensures op)
