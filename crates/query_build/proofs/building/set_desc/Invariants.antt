use Rattle.std.proofs.Common.{◌≡◌, length, take}
use Rattle.descriptor_types.specs.Descriptors.{plain}
use Rattle.query_build.specs.Query.{with_settings}
use Rattle.query_build.proofs.building.set_desc.Given as goal

abbrev pub invariant-loop-setting : goal.invariant-loop-setting
invariant-loop-setting l =
    (l.desc ≡ with_settings l.layout (take l.setting-index l.settings) (plain l.layout))
    × (length l.desc ≡ length l.layout)
