use Rattle.descriptor_types.proofs.FitLaws.{length-fits, fits-plain, fits-only, fits-asked_of}
use Rattle.descriptor_types.proofs.laws.descriptor_laws.Goals as goal

pub returns : goal.returns
returns c = record { plain = fits-plain; only = fits-only; asked = fits-asked_of; as_long = length-fits }
