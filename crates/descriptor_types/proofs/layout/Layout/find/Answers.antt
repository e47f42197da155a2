use Rattle.std.proofs.Common.{ap, sym, ◌∙◌}
use Rattle.std.specs.List.{position}
use Rattle.std.specs.Str.{bytes_eq}
use Rattle.descriptor_types.proofs.PlaceLaws.{place_of-position}
use Rattle.descriptor_types.proofs.layout.Layout.find.Goals as goal

pub returns : goal.returns
returns c =
    let name = c.args.name.now in
    c.first_named.ensures ∙ (ap (position (λ p. bytes_eq p.name name)) c.as_slice.ensures ∙ sym (place_of-position c.args.self.now name))
