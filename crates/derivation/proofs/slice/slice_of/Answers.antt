use Rattle.std.proofs.Common.{◌∙◌, ap, length}
use Rattle.derivation.proofs.SliceLaws.{sliced, places_long}
use Rattle.derivation.proofs.slice.slice_of.Goals as goal

pub kept_of-requires-clause-long : goal.kept_of-requires-clause-long
kept_of-requires-clause-long c = (
  ap (λ w. length w) c.as_slice-3.ensures.value ∙ c.in_ok-marks.ensures.long,
  ap (λ w. length w) (c.as_slice-2.ensures.value ∙ c.in_ok-places.ensures) ∙ places_long 0 c.as_slice.result.now ∙ ap (λ w. length w) c.as_slice.ensures.value ∙ c.in_ok-marks.ensures.long,
)

pub returns : goal.returns
returns c =
    sliced c.args.lines.now c.args.given.now c.in_ok-places.places.items c.as_slice-2.result.now c.in_ok-marks.marks.items c.as_slice.result.now c.as_slice-3.result.now c.from_vec.result
    c.requires.backward c.in_ok-marks.ensures c.in_ok-places.ensures c.as_slice.ensures.value c.as_slice-3.ensures.value c.as_slice-2.ensures.value (c.from_vec.ensures ∙ c.in_ok-kept.ensures)
