use Rattle.descriptor_types.proofs.PlaceLaws.{place_of-at, value_of-at, with_value-at, with_value-none, value_of-with_value, value_of-with_other, has_kind-value_of, fits-with_value}
use Rattle.descriptor_types.proofs.laws.place_laws.Goals as goal

pub returns : goal.returns
returns c =
    record {
      named = place_of-at;
      value = value_of-at;
      changed = with_value-at;
      nowhere = with_value-none;
      set = value_of-with_value;
      others = value_of-with_other;
      kind = has_kind-value_of;
      fits = fits-with_value;
    }
