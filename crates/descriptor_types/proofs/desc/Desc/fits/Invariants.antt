use Rattle.std.proofs.Common.{◌≡◌, drop}
use Rattle.descriptor_types.specs.Descriptors.{fits}
use Rattle.descriptor_types.proofs.desc.Desc.fits.Given as goal

abbrev pub invariant-loop-p : goal.invariant-loop-p
invariant-loop-p l = fits l.layout l.self ≡ fits (drop l.p l.layout) (drop l.p l.self)
