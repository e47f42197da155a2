use Rattle.std.proofs.Common.{◌≡◌, true, set, sym, subst}
use Rattle.descriptor_types.specs.Descriptors.{fits}
use Rattle.descriptor_types.proofs.FitLaws.{fits-set}
use Rattle.descriptor_types.proofs.desc.Desc.set.Goals as goal

pub returns-clause-fits : goal.returns-clause-fits
returns-clause-fits c = λ l q fit at kind. subst (λ d. fits l (set d c.args.p c.args.v) ≡ true) (sym c.self.view_is) (fits-set l c.args.self.now c.args.p c.args.v q fit at kind)
