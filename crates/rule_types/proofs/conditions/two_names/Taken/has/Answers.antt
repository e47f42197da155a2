use Rattle.std.proofs.Common.{ap, ◌∙◌}
use Rattle.pr_value.specs.SymbolSets.{contains}
use Rattle.pr_value.proofs.MemberLaws.{contains-set_of}
use Rattle.rule_types.proofs.conditions.two_names.Taken.has.Goals as goal

pub returns : goal.returns
returns c =
    c.contains.ensures
    ∙ (ap (λ ss. contains ss c.args.x.now) c.args.self.now.same
    ∙ contains-set_of c.args.self.now.names.now c.args.x.now)
