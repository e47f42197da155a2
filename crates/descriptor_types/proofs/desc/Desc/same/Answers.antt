use Rattle.std.proofs.Common.{◌≡◌, rules, sym, ◌∙◌}
use Rattle.descriptor_types.specs.Descriptors.{same_desc}
use Rattle.descriptor_types.specs.EqualityLaws.{same_desc-Decides}
use Rattle.descriptor_types.proofs.desc.Desc.same.Goals as goal

pub returns-clause-equal : goal.returns-clause-equal
returns-clause-equal c =
    let decides = same_desc-Decides c.args.self.now c.args.other.now in
    let is : c.eq.result ≡ same_desc c.args.self.now c.args.other.now = search rules in
    (λ same. decides.0 (sym is ∙ same), λ equal. is ∙ decides.1 equal)
