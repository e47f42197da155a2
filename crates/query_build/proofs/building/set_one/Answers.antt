use Rattle.std.proofs.Common.{◌≡◌, Some, None, ap, sym, ◌∙◌, arith}
use Rattle.std.specs.Prelude.{slice_set}
use Rattle.descriptor_types.specs.Descriptors.{place_of}
use Rattle.descriptor_types.proofs.PlaceLaws.{with_value-at, with_value-none}
use Rattle.pr_value.specs.declared.value.Value.{Value}
use Rattle.query_build.specs.Query.{literal_value}
use Rattle.query_build.proofs.DescLaws.{place_within}
use Rattle.query_build.proofs.building.set_one.Goals as goal

pub returns-in_default-clause-set : goal.returns-in_default-clause-set
returns-in_default-clause-set c =
    let none : place_of c.args.layout.now c.args.setting.now.property ≡ None = cc in
    sym (with_value-none c.args.layout.now c.args.setting.now.property (literal_value c.args.setting.now.value) c.args.desc.now none)

pub set-requires : goal.set-requires
set-requires c =
    let there : place_of c.args.layout.now c.args.setting.now.property ≡ Some c.in-Some.place = cc in
    omega (arith, place_within c.args.layout.now c.args.setting.now.property c.in-Some.place there, c.requires.long)

pub returns-clause-set : goal.returns-clause-set
returns-clause-set c =
    let there : place_of c.args.layout.now c.args.setting.now.property ≡ Some c.in-Some.place = cc in
    c.set.ensures.value
    ∙ (ap (λ (v : Value). slice_set c.args.desc.now c.in-Some.place v) c.in_ok-value.ensures
    ∙ sym (with_value-at c.args.layout.now c.args.setting.now.property (literal_value c.args.setting.now.value) c.args.desc.now c.in-Some.place there))
