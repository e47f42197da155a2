use Rattle.std.proofs.Common.{ap, sym, ◌∙◌, arith}
use Rattle.descriptor_types.specs.Descriptors.{Desc, plain, with_value}
use Rattle.query_build.specs.Query.{literal_value}
use Rattle.query_build.proofs.DescLaws.{settings_more}
use Rattle.query_build.proofs.building.set_desc.Goals as goal

pub loop-setting-preserved : goal.loop-setting-preserved
loop-setting-preserved c =
    let l = c.args.layout.now in
    let s = c.setting-item.result in (
      c.in_ok-set_one.ensures.set
          ∙ (ap (λ (d : Desc). with_value l s.property (literal_value s.value) d) c.loop-setting.invariant.0
          ∙ sym (settings_more l c.args.settings.now c.loop-setting.setting-index s (plain l) (omega arith) c.setting-item.is)),
      c.set_one.ensures.long,
    )
