use Rattle.std.proofs.Common.{◌<◌, ◌∙◌, List, ap, get_or, length, arith}
use Rattle.pr_value.specs.declared.property.Property.{Property}
use Rattle.query_build.proofs.DescLaws.{field_more}
use Rattle.query_build.proofs.files.file_desc.Goals as goal

pub loop-place-preserved : goal.loop-place-preserved
loop-place-preserved c =
    let same = c.as_slice-property-items.ensures in
    let i = c.loop-place.place in
    let property = c.property-item.result in
    let within : i < length c.args.layout.now = omega (arith, ap length same) in
    field_more c.args.fields.now c.args.layout.now i property c.loop-place.desc c.set_field.new.desc within
    (c.property-item.is ∙ ap (λ (ps : List Property). get_or ps i property) same) c.loop-place.invariant c.in_ok-set_field.ensures.some c.in_ok-set_field.ensures.none
