use Rattle.std.proofs.Common.{refl}
use Rattle.bound_certificate.proofs.CertificateLaws.{one_certificate}
use Rattle.bound_certificate.proofs.FirstLaws.{lacks_nothing}
use Rattle.bound_certificate.proofs.laws.certificate_laws.Goals as goal

pub returns-clause-one : goal.returns-clause-one
returns-clause-one c = one_certificate

pub returns-clause-whole : goal.returns-clause-whole
returns-clause-whole c = lacks_nothing

pub returns-clause-numbers : goal.returns-clause-numbers
returns-clause-numbers c = record { below = λ z. refl; between = λ x. refl }
