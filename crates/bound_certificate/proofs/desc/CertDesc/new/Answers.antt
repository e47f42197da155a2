use Rattle.std.proofs.Common.{subst, sym}
use Rattle.bound_certificate.specs.Fields.{Rise}
use Rattle.bound_certificate.proofs.PutLaws.{rise_none}
use Rattle.bound_certificate.proofs.desc.CertDesc.new.Goals as goal

pub invariant_of-result : goal.invariant_of-result
invariant_of-result c = subst Rise (sym c.new.ensures.items) rise_none
